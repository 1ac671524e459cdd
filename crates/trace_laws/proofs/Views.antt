-- Views as the machine numbers them, and as a trace shows them.
use Rattle.std.proofs.Common.{◌≡◌, ℕ, zero, suc, ◌/◌, ◌%◌, ◌<◌, ◌==◌, Bool, true, false, refl, sym, ap, ◌∙◌, arith, nat_lt, if◌then◌else◌}
use Rattle.std.proofs.lemmas.Bool.{eqb-true}
use Rattle.harp_types.specs.Server.{number_of}
use Rattle.harp_types.specs.View.{above}
use Rattle.trace_claims.specs.Servers.{first_view}
use Rattle.group_rules.specs.Names.{id_of, number_of_view, view_of}
use Rattle.group_rules.specs.Places.{place}
use Rattle.group_rules.proofs.Tests.{is_lt}

place_back : (r : ℕ) → r < 3 → number_of (id_of (place r)) ≡ r
place_back zero l = refl
place_back (suc zero) l = refl
place_back (suc (suc zero)) l = refl
place_back (suc (suc (suc n))) l = absurd (omega arith)

low : (v : ℕ) → v % 3 < 3
low v = omega arith

view_number : (v : ℕ) → number_of_view (view_of v) ≡ v
view_number v = let a = place_back (v % 3) (low v) in omega arith

pub view_is : (v w : ℕ) → view_of v ≡ view_of w → v ≡ w
view_is v w e = sym (view_number v) ∙ ap number_of_view e ∙ view_number w

pub not_first : (v : ℕ) → 0 < v → first_view ≡ view_of v → ⊥
not_first v l e = let z : 0 ≡ v = view_is 0 v e in absurd (omega arith)

pub above_is : (w v : ℕ) → above (view_of w) (view_of v) ≡ true → v < w
above_is w v e = by (w / 3 == v / 3) refl e
  where
    by : (b : Bool) → (w / 3 == v / 3) ≡ b
        → (if b then nat_lt (number_of (id_of (place (v % 3)))) (number_of (id_of (place (w % 3))))
        else nat_lt (v / 3) (w / 3)) ≡ true → v < w
    by true c e =
        let a = place_back (v % 3) (low v) in
        let b = place_back (w % 3) (low w) in
        let d = is_lt (number_of (id_of (place (v % 3)))) (number_of (id_of (place (w % 3)))) e in
        let f = eqb-true (w / 3) (v / 3) c in
        omega arith
    by false c e = let d = is_lt (v / 3) (w / 3) e in omega arith
