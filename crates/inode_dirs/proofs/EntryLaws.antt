-- What a search of slots by a name says.
use Rattle.std.proofs.Common.{◌≡◌, ℕ, zero, suc, ◌+◌, true, false, List, [], ◌∷◌, get_or, Option, Some, None, refl, ap}
use Rattle.std.proofs.Common.{◌∙◌, inl, inr}
use Rattle.std.specs.Str.{bytes_eq}
use Rattle.std.proofs.lemmas.Bool.{cases_Bool, both_ways}
use Rattle.std.proofs.lemmas.Slice.Eq.{bytes_eq-Decides}
use Rattle.file_tree.specs.declared.object.Slot.{Slot}
use Rattle.file_tree.specs.Tree.{Slots, entry_from, entry}
use Rattle.file_tree.specs.Sound.{has_name}
use Rattle.file_tree.proofs.SlotLaws.{found}
use Rattle.inode_dirs.specs.Laws.{NoneIsNamed, FoundIsNamed}

none_behind : (s : Slot) (slots : Slots) (name : List ℕ) → bytes_eq s.name name ≡ false
    → ((slot : ℕ) → has_name name (get_or slots slot None) ≡ false)
    → (slot : ℕ) → has_name name (get_or (Some s ∷ slots) slot None) ≡ false
none_behind s slots name t h zero = t
none_behind s slots name t h (suc slot) = h slot

none_from : (i : ℕ) (slots : Slots) (name : List ℕ) → entry_from i slots name ≡ None → (slot : ℕ)
    → has_name name (get_or slots slot None) ≡ false
unfolding entry_from
none_from i [] name e slot = refl
none_from i (None ∷ slots) name e zero = refl
none_from i (None ∷ slots) name e (suc slot) = none_from (i + 1) slots name e slot
none_from i (Some s ∷ slots) name e slot = elim (cases_Bool (bytes_eq s.name name)) [
  | inl t ↦ let e' = rw t at e in absurd cc
  | inr t ↦ none_behind s slots name t (none_from (i + 1) slots name (rw t at e)) slot
]

none_is : (slots : Slots) (name : List ℕ) (x : Option (ℕ × ℕ)) → entry slots name ≡ x
    → ((slot : ℕ) → has_name name (get_or slots slot None) ≡ false) → x ≡ None
none_is slots name None e h = refl
none_is slots name (Some x) e h =
    let f = found slots name x e in
    let named : has_name name (Some f.slot) ≡ true =
    (bytes_eq-Decides f.slot.name name).1 f.named in
    absurd (both_ways _ (h x.0) (ap (has_name name) f.at ∙ named))

pub none_is_named : NoneIsNamed
none_is_named slots name = (none_from 0 slots name, none_is slots name (entry slots name) refl)

abbrev pub slot_with : List ℕ → ℕ → Option Slot
slot_with name number = Some (record { name = name; number = number })

pub found_is_named : FoundIsNamed
found_is_named slots name x e =
    let f = found slots name x e in (
      f.within,
      f.at
          ∙ ap (λ (n : List ℕ). slot_with n f.slot.number) f.named
          ∙ ap (slot_with name) f.number,
    )
