-- Views and their numbers.
use Rattle.std.proofs.Common.{◌≡◌, ℕ, ◌+◌, ◌*◌, ◌/◌, ◌%◌, ◌<◌, ◌≤◌, ◌==◌, Bool, true, false, nat_lt, refl, arith, if◌then◌else◌}
use Rattle.harp_types.specs.Server.{number_of}
use Rattle.harp_types.specs.declared.server.ServerId.{ServerId}
use Rattle.harp_types.specs.declared.server.ServerId.TheVariants as server
use Rattle.std.proofs.lemmas.Bool.{eqb-false, eqb-true, ltb-false, ltb-true}
use Rattle.harp_types.specs.View.{View, above}
use Rattle.group_rules.specs.Names.{number_of_view, view_of}

-- a view has its number of the machine
back : (count : ℕ) (s : ServerId)
    → view_of (3 * count + number_of s) ≡ record { count = count; coordinator = s }
back count server.Zero = let q : (3 * count + 0) / 3
    ≡ count = omega arith in let r : (3 * count + 0) % 3 ≡ 0 = omega arith in rw (q, r) refl
back count server.One = let q : (3 * count + 1) / 3
    ≡ count = omega arith in let r : (3 * count + 1) % 3 ≡ 1 = omega arith in rw (q, r) refl
back count server.Two = let q : (3 * count + 2) / 3
    ≡ count = omega arith in let r : (3 * count + 2) % 3 ≡ 2 = omega arith in rw (q, r) refl

pub view_back : (v : View) → view_of (number_of_view v) ≡ v
view_back v = back v.count v.coordinator

small : (s : ServerId) → number_of s ≤ 2
small server.Zero = omega arith
small server.One = omega arith
small server.Two = omega arith

-- ---- the order of views is that of their numbers

above_at : (b : Bool) (c d m n : ℕ) → m ≤ 2 → n ≤ 2 → (c == d) ≡ b
    → (if b then nat_lt m n else nat_lt d c) ≡ true → 3 * d + m < 3 * c + n
above_at true c d m n x y same is = omega (arith, eqb-true c d same, ltb-true m n is, x, y)
above_at false c d m n x y same is = omega (arith, ltb-true d c is, x, y)

pub above_is : (v w : View) → above v w ≡ true → number_of_view w < number_of_view v
above_is v w is = above_at (v.count == w.count) v.count w.count (number_of w.coordinator)
    (number_of v.coordinator) (small w.coordinator) (small v.coordinator) refl is

below_at : (b : Bool) (c d m n : ℕ) → m ≤ 2 → n ≤ 2 → (c == d) ≡ b
    → (if b then nat_lt m n else nat_lt d c) ≡ false → 3 * c + n ≤ 3 * d + m
below_at true c d m n x y same is = omega (arith, eqb-true c d same, ltb-false m n is, x, y)
below_at false c d m n x y same is = omega (arith, eqb-false c d same, ltb-false d c is, x, y)

pub not_above : (v w : View) → above v w ≡ false → number_of_view v ≤ number_of_view w
not_above v w is = below_at (v.count == w.count) v.count w.count (number_of w.coordinator)
    (number_of v.coordinator) (small w.coordinator) (small v.coordinator) refl is
