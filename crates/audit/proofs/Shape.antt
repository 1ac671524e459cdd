-- What is read has a picture's shape, whatever the cells are.
use Rattle.std.proofs.Common.{◌≡◌, ℕ, ◌+◌, ◌≤◌, List, [], ◌∷◌, ◌++◌, Option, Some}
use Rattle.std.proofs.Common.{None, max, sym, subst, ap, ◌∙◌, arith, inl, inr}
use Rattle.std.specs.List.{AllByRecursion}
use Rattle.std.specs.Prelude.{IfSome}
use Rattle.std.proofs.lemmas.Bool.{cases_lt}
use Rattle.std.proofs.lemmas.List.{length-append}
use Rattle.harp_cells.specs.declared.value.Value.{Value}
use Rattle.audit.specs.declared.picture.Portrait.{Portrait}
use Rattle.audit.specs.Pictures.{AreInOrder, AreSlots, IsObjectValue, IsPortrait, IsSlot}
use Rattle.audit.specs.Pictures.{object_read, slot_read}
use Rattle.audit.proofs.Gathered.{is_object, slot_again}

object_there : (number : ℕ) (v found : Option Value) → found ≡ object_read number v
    → IfSome found IsObjectValue
object_there number v None e = tt
object_there number v (Some w) e = is_object number v w (sym e)

pub object_form : (number : ℕ) (v found : Option Value) → found ≡ object_read number v
    → IfSome found IsObjectValue
object_form number v found e = object_there number v found e

pub slot_form : (v found : Option Value) → found ≡ slot_read v → IsSlot found
slot_form v found e = subst IsSlot (sym e) (slot_again v)

all_and_one : (slots : List (Option Value)) (v : Option Value)
    → AllByRecursion IsSlot slots → IsSlot v → AllByRecursion IsSlot (slots ++ v ∷ [])
all_and_one [] v all is = (is, tt)
all_and_one (s ∷ slots) v all is = (all.0, all_and_one slots v all.1 is)

pub one_slot_more : (count : ℕ) (slots : List (Option Value)) (v : Option Value)
    → AreSlots count slots → IsSlot v → AreSlots (count + 1) (slots ++ v ∷ [])
one_slot_more count slots v are is =
    (length-append slots (v ∷ []) ∙ ap (λ (n : ℕ). n + 1) are.0, all_and_one slots v are.1 is)

-- objects in order, and one more
pub one_more : (from n : ℕ) (xs : List Portrait) (x : Portrait) → AreInOrder from n xs → from ≤ n
    → x.number ≡ n → IsPortrait x → AreInOrder from (n + 1) (xs ++ x ∷ [])
one_more from n [] x h low e is = (omega (arith, low, e), omega (arith, e), is, tt)
one_more from n (y ∷ ys) x h low e is = (
  h.0,
  omega (arith, h.1),
  h.2,
  one_more (y.number + 1) n ys x h.3 (omega (arith, h.1)) e is,
)

-- or none
pub none_more : (from n : ℕ) (xs : List Portrait) → AreInOrder from n xs
    → AreInOrder from (n + 1) xs
none_more from n [] h = tt
none_more from n (y ∷ ys) h =
    (h.0, omega (arith, h.1), h.2, none_more (y.number + 1) n ys h.3)

-- no number is left where the next one is 0 or 1
none_left : (n : ℕ) (xs : List Portrait) → AreInOrder 1 1 xs → AreInOrder 1 n xs
none_left n [] h = tt
none_left n (y ∷ ys) h = absurd (omega (arith, h.0, h.1))

pub in_order : (next number : ℕ) (xs : List Portrait) → max next 1 ≤ number → number ≤ max next 1
    → AreInOrder 1 number xs → AreInOrder 1 next xs
in_order next number xs past end h = elim (cases_lt next 1) [
  | inl none ↦
      let one : number ≡ 1 = omega (arith, none, past, end) in
      none_left next xs (subst (λ (n : ℕ). AreInOrder 1 n xs) one h)
  | inr some ↦
      let same : number ≡ next = omega (arith, past, end, some) in
      subst (λ (n : ℕ). AreInOrder 1 n xs) same h
]
