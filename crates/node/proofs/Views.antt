-- Views by their numbers.
use Rattle.std.proofs.Common.{◌≡◌, ℕ, ◌+◌, ◌*◌, ◌/◌, ◌<◌, ◌≤◌, ◌^◌, ◌==◌, Bool, true, false, Option, Some, None, nat_lt, option_map, refl, ap, sym, ◌∙◌, arith, if◌then◌else◌}
use Rattle.std.specs.Prelude.{IfSome, IsSome, ◌↔◌}
use Rattle.std.proofs.lemmas.Bool.{eqb-false, eqb-true, le-ltb, lt-ltb, ltb-false, ltb-true, ltb_from_iff}
use Rattle.group_rules.specs.Limits.{limit}
use Rattle.group_rules.specs.Names.{number_of_view, place_of}
use Rattle.group_rules.specs.Places.{next_view, number}
use Rattle.harp_types.specs.Server.{number_of}
use Rattle.harp_types.specs.View.{View, above}
use Rattle.harp_types.specs.declared.server.ServerId.{ServerId}
use Rattle.harp_types.specs.declared.server.ServerId.TheVariants as server

small : (s : ServerId) → number_of s ≤ 2
small server.Zero = omega arith
small server.One = omega arith
small server.Two = omega arith

same_number : (s : ServerId) → number (place_of s) ≡ number_of s
same_number server.Zero = refl
same_number server.One = refl
same_number server.Two = refl

third : (v : View) → number_of_view v / 3 ≡ v.count
third v = omega (arith, small v.coordinator)

-- ---- the next view of a coordinator

pub next_is : (promised : View) (me : ServerId) (n : ℕ) (v : Option View) → n ≡ promised.count
    → IsSome v ↔ (n + 1 < 2 ^ 62) → IfSome v (λ x. x ≡ record { count = n + 1; coordinator = me })
    → option_map number_of_view v ≡ (if nat_lt (number_of_view promised / 3) limit
    then Some (next_view (number_of_view promised) (place_of me)) else None)
unfolding limit
next_is promised me n (Some v) same found is =
    let low = found.0 refl in
    let test : nat_lt (number_of_view promised / 3) limit ≡ true =
    lt-ltb (number_of_view promised / 3) limit (omega (arith, low, same, third promised)) in
    let next : 3 * (n + 1) + number_of me ≡ next_view (number_of_view promised) (place_of me) =
    omega (arith, same, third promised, same_number me) in
    rw test (ap (λ (x : View). Some (number_of_view x)) is ∙ ap Some next)
next_is promised me n None same found is =
    let high : (n + 1 < 2 ^ 62) → ⊥ = λ low. (let s = found.1 low in cc) in
    let test : nat_lt (number_of_view promised / 3) limit ≡ false =
    le-ltb (number_of_view promised / 3) limit (omega (arith, high, same, third promised)) in
    rw test refl

-- ---- the order of views is that of their numbers

above_at : (b : Bool) (c d m n : ℕ) → m ≤ 2 → n ≤ 2 → (c == d) ≡ b
    → (if b then nat_lt m n else nat_lt d c) ≡ nat_lt (3 * d + m) (3 * c + n)
above_at true c d m n x y same = ltb_from_iff (
  λ (is : nat_lt m n ≡ true). omega (arith, eqb-true c d same, ltb-true m n is),
  λ (is : 3 * d + m < 3 * c + n). lt-ltb m n (omega (arith, eqb-true c d same, is)),
)
above_at false c d m n x y same = ltb_from_iff (
  λ (is : nat_lt d c ≡ true). omega (arith, ltb-true d c is, x, y),
  λ (is : 3 * d + m < 3 * c + n). lt-ltb d c (omega (arith, eqb-false c d same, is, x, y)),
)

pub above_is : (v w : View) → above v w ≡ nat_lt (number_of_view w) (number_of_view v)
above_is v w = above_at (v.count == w.count) v.count w.count (number_of w.coordinator)
    (number_of v.coordinator) (small w.coordinator) (small v.coordinator) refl

-- what isn't above a view isn't above one above that
pub still_below : (a p v : View) → above a p ≡ false
    → nat_lt (number_of_view p) (number_of_view v) ≡ true → above a v ≡ false
still_below a p v low high =
    let under : number_of_view a ≤ number_of_view p =
    ltb-false (number_of_view p) (number_of_view a) (sym (above_is a p) ∙ low) in
    above_is a v ∙ le-ltb (number_of_view v) (number_of_view a)
    (omega (arith, under, ltb-true (number_of_view p) (number_of_view v) high))
