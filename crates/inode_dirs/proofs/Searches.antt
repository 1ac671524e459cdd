-- Searches of a list of slots, slot by slot.
use Rattle.std.proofs.Common.{◌≡◌, ℕ, ◌+◌, ◌<◌, ◌≤◌, true, false, not, is_some, List, ◌∷◌, length, get_or, drop}
use Rattle.std.proofs.Common.{Option, Some, None, refl, sym, ◌∙◌, inl, inr}
use Rattle.std.specs.Str.{bytes_eq}
use Rattle.std.proofs.lemmas.Bool.{cases_Bool}
use Rattle.std.proofs.lemmas.List.{at_drop_more, at_drop_all}
use Rattle.file_tree.specs.declared.object.Slot.{Slot}
use Rattle.file_tree.specs.Tree.{Slots, entry_from, free_from}
use Rattle.inode_dirs.specs.Slots.{object_named}

-- ---- an entry by its name

entry_next : (i : ℕ) (s : Option Slot) (slots : Slots) (name : List ℕ) → object_named name s ≡ None
    → entry_from i (s ∷ slots) name ≡ entry_from (i + 1) slots name
unfolding entry_from
entry_next i None slots name e = refl
entry_next i (Some s) slots name e = elim (cases_Bool (bytes_eq s.name name)) [
  | inl t ↦ let wrong = rw t at e in absurd cc
  | inr t ↦ rw t refl
]

entry_here : (i : ℕ) (s : Option Slot) (slots : Slots) (name : List ℕ) (n : ℕ)
    → object_named name s ≡ Some n
    → entry_from i (s ∷ slots) name ≡ Some (i, n)
unfolding entry_from
entry_here i None slots name n e = absurd cc
entry_here i (Some s) slots name n e = elim (cases_Bool (bytes_eq s.name name)) [
  | inl t ↦ let number : s.number ≡ n = let e' = rw t at e in cc in rw (t, number) refl
  | inr t ↦ let wrong = rw t at e in absurd cc
]

pub entry_passes : (slots : Slots) (i : ℕ) (name : List ℕ) → i < length slots
    → object_named name (get_or slots i None) ≡ None
    → entry_from (i + 1) (drop (i + 1) slots) name ≡ entry_from i (drop i slots) name
entry_passes slots i name lt e =
    let first = at_drop_more (λ (ss : Slots). entry_from i ss name) slots i None lt in
    sym (first ∙ entry_next i (get_or slots i None) (drop (i + 1) slots) name e)

pub entry_hits : (slots : Slots) (i : ℕ) (name : List ℕ) (n : ℕ) → i < length slots
    → object_named name (get_or slots i None) ≡ Some n
    → Some (i, n) ≡ entry_from i (drop i slots) name
entry_hits slots i name n lt e =
    let first = at_drop_more (λ (ss : Slots). entry_from i ss name) slots i None lt in
    sym (first ∙ entry_here i (get_or slots i None) (drop (i + 1) slots) name n e)

pub entry_ends : (slots : Slots) (i : ℕ) (name : List ℕ) → length slots ≤ i
    → None ≡ entry_from i (drop i slots) name
unfolding entry_from
entry_ends slots i name le = sym (at_drop_all (λ (ss : Slots). entry_from i ss name) slots i le)

-- ---- a free slot

free_next : (i : ℕ) (s : Option Slot) (slots : Slots) → not (is_some s) ≡ false
    → free_from i (s ∷ slots) ≡ free_from (i + 1) slots
unfolding free_from
free_next i None slots e = absurd cc
free_next i (Some s) slots e = refl

free_here : (i : ℕ) (s : Option Slot) (slots : Slots) → not (is_some s) ≡ true
    → free_from i (s ∷ slots) ≡ i
unfolding free_from
free_here i None slots e = refl
free_here i (Some s) slots e = absurd cc

pub free_passes : (slots : Slots) (i : ℕ) → i < length slots
    → not (is_some (get_or slots i None)) ≡ false
    → free_from (i + 1) (drop (i + 1) slots) ≡ free_from i (drop i slots)
free_passes slots i lt e =
    sym (at_drop_more (free_from i) slots i None lt
    ∙ free_next i (get_or slots i None) (drop (i + 1) slots) e)

pub free_hits : (slots : Slots) (i : ℕ) → i < length slots
    → not (is_some (get_or slots i None)) ≡ true
    → i ≡ free_from i (drop i slots)
free_hits slots i lt e =
    sym (at_drop_more (free_from i) slots i None lt
    ∙ free_here i (get_or slots i None) (drop (i + 1) slots) e)

pub free_ends : (slots : Slots) (i : ℕ) → length slots ≤ i → i ≡ free_from i (drop i slots)
unfolding free_from
free_ends slots i le = sym (at_drop_all (free_from i) slots i le)
