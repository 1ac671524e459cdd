-- What one change of a cell makes of a directory's slots.
use Rattle.std.proofs.Common.{◌≡◌, ℕ, zero, suc, ◌+◌, ◌<◌, ◌≤◌, ◌==◌, Bool, true, false, [], ◌∷◌, ◌++◌, length}
use Rattle.std.proofs.Common.{get_or, set, Option, Some, None, refl, sym, ap, ◌∙◌, subst, arith, inl, inr}
use Rattle.std.specs.Bool.{if◌then◌else◌}
use Rattle.std.proofs.lemmas.Bool.{cases_eq, cases_lt, eq-eqb, ne_eqb}
use Rattle.std.proofs.lemmas.List.{get_or_past, set_past, get_or-set_same, get_or-set_other}
use Rattle.file_tree.specs.declared.object.Slot.{Slot}
use Rattle.file_tree.specs.Tree.{Slots, free_from, with_entry}
use Rattle.file_tree.proofs.FreeSlots.{with_entry_set, with_entry_push}
use Rattle.harp_cells.specs.declared.cell.Cell.{Cell}
use Rattle.harp_cells.specs.declared.cell.Cell.TheVariants as cell
use Rattle.harp_cells.specs.declared.change.Change.TheVariants as change
use Rattle.harp_cells.specs.declared.value.Value.{Value}
use Rattle.harp_cells.specs.Effect.{Cells, is_cell, is_block_from}
use Rattle.harp_cells.specs.CellsOfTree.{slot_value}
use Rattle.inode_dirs.specs.Slots.{HoldsSlots, is_slot_of}
use Rattle.inode_dirs.specs.Laws.{EntersFirstFree, ReplacesSlot, FreesSlot, KeepsSlots}

pub same_slot : (dir i slot : ℕ) → is_cell (cell.Slot dir i) (cell.Slot dir slot) ≡ (i == slot)
unfolding is_cell
same_slot dir i slot = let t : (dir == dir) ≡ true = eq-eqb dir dir refl in rw t refl

abbrev pub slot_if : Bool → Option Slot → Option Slot → Option Slot
slot_if b x y = if b then x else y

abbrev pub value_if : Bool → Option Value → Option Value → Option Value
value_if b v w = if b then v else w

pick : (b : Bool) (x y : Option Slot) (v : Option Value) → v ≡ slot_value y
    → value_if b (slot_value x) v ≡ slot_value (slot_if b x y)
pick true x y v e = refl
pick false x y v e = e

-- slots that differ from others in one place alone
abbrev pub DiffersAt : ℕ → Option Slot → Slots → Slots → Type 0
DiffersAt i x slots new = (slot : ℕ)
    → get_or new slot None ≡ slot_if (i == slot) x (get_or slots slot None)

held_after : (cells : Cells) (dir i : ℕ) (x : Option Slot) (slots new : Slots)
    → DiffersAt i x slots new
    → HoldsSlots cells dir slots → (slot : ℕ)
    → value_if (is_cell (cell.Slot dir i) (cell.Slot dir slot)) (slot_value x)
    (cells (cell.Slot dir slot))
    ≡ slot_value (get_or new slot None)
held_after cells dir i x slots new differs holds slot =
    ap (λ (b : Bool). value_if b (slot_value x) (cells (cell.Slot dir slot))) (same_slot dir i slot)
    ∙ pick (i == slot) x (get_or slots slot None) (cells (cell.Slot dir slot)) (holds slot)
    ∙ ap slot_value (sym (differs slot))

pub set_differs : (i : ℕ) (x : Option Slot) (slots : Slots) → i < length slots
    → DiffersAt i x slots (set slots i x)
set_differs i x slots lt slot = elim (cases_eq slot i) [
  | inl e ↦
      let t : (i == slot) ≡ true = eq-eqb i slot (sym e) in
      rw t (ap (λ (k : ℕ). get_or (set slots i x) k None) e ∙ get_or-set_same slots i x None lt)
  | inr ne ↦
      let t : (i == slot) ≡ false = ne_eqb i slot (λ e. ne (sym e)) in
      rw t (get_or-set_other slots i slot x None ne)
]

past_differs : (i : ℕ) (slots : Slots) → length slots ≤ i → DiffersAt i None slots slots
past_differs i slots le slot = elim (cases_eq slot i) [
  | inl e ↦
      let t : (i == slot) ≡ true = eq-eqb i slot (sym e) in
      rw t (get_or_past slots slot None (omega (arith, e, le)))
  | inr ne ↦ let t : (i == slot) ≡ false = ne_eqb i slot (λ e. ne (sym e)) in rw t refl
]

both_sucs : (a b : ℕ) → (suc a == suc b) ≡ (a == b)
both_sucs a b = elim (cases_eq a b) [
  | inl e ↦ eq-eqb (suc a) (suc b) (ap suc e) ∙ sym (eq-eqb a b e)
  | inr ne ↦ ne_eqb (suc a) (suc b) (λ e. ne (omega (arith, e))) ∙ sym (ne_eqb a b ne)
]

push_differs : (x : Option Slot) (slots : Slots)
    → DiffersAt (length slots) x slots (slots ++ x ∷ [])
push_differs x [] zero = refl
push_differs x [] (suc slot) =
    let t : (0 == suc slot) ≡ false = ne_eqb 0 (suc slot) (λ e. omega (arith, e)) in
    rw t refl
push_differs x (s ∷ slots) zero =
    let t : (suc (length slots) == 0) ≡ false =
    ne_eqb (suc (length slots)) 0 (λ e. omega (arith, e)) in
    rw t refl
push_differs x (s ∷ slots) (suc slot) =
    rw (both_sucs (length slots) slot) (push_differs x slots slot)

free_within : (i : ℕ) (slots : Slots) → free_from i slots ≤ i + length slots
unfolding free_from
free_within i [] = omega arith
free_within i (None ∷ slots) = omega arith
free_within i (Some s ∷ slots) = omega (arith, free_within (i + 1) slots)

pub entry_differs : (slots : Slots) (s : Slot)
    → DiffersAt (free_from 0 slots) (Some s) slots (with_entry slots s)
entry_differs slots s = elim (cases_lt (free_from 0 slots) (length slots)) [
  | inl lt ↦
      subst (DiffersAt (free_from 0 slots) (Some s) slots) (with_entry_set slots s lt)
      (set_differs (free_from 0 slots) (Some s) slots lt)
  | inr le ↦
      let e : length slots ≡ free_from 0 slots = omega (arith, le, free_within 0 slots) in
      subst (λ (i : ℕ). DiffersAt i (Some s) slots (with_entry slots s)) e
      (subst (DiffersAt (length slots) (Some s) slots) (with_entry_push slots s le)
      (push_differs (Some s) slots))
]

pub enters_first_free : EntersFirstFree
enters_first_free cells dir slots s holds slot =
    held_after cells dir (free_from 0 slots) (Some s) slots (with_entry slots s)
    (entry_differs slots s) holds slot

pub replaces_slot : ReplacesSlot
replaces_slot cells dir i slots s lt holds slot =
    held_after cells dir i (Some s) slots (set slots i (Some s))
    (set_differs i (Some s) slots lt) holds slot

pub frees_slot : FreesSlot
frees_slot cells dir i slots holds slot = elim (cases_lt i (length slots)) [
  | inl lt ↦
      held_after cells dir i None slots (set slots i None) (set_differs i None slots lt) holds slot
  | inr le ↦
      rw (set_past slots i None le)
      (held_after cells dir i None slots slots (past_differs i slots le) holds slot)
]

-- ---- changes of other cells

other_cell : (dir slot : ℕ) (c : Cell) → is_slot_of dir c ≡ false
    → is_cell c (cell.Slot dir slot) ≡ false
unfolding is_cell
other_cell dir slot cell.Meta e = refl
other_cell dir slot (cell.Object object) e = refl
other_cell dir slot (cell.Block object block) e = refl
other_cell dir slot (cell.Slot object at) e = rw e refl
other_cell dir slot (cell.Client client) e = refl
other_cell dir slot (cell.Saved place) e = refl

pub keeps_slots : KeepsSlots
unfolding is_block_from
keeps_slots cells dir slots (change.Put c v) e holds slot =
    rw (other_cell dir slot c e) (holds slot)
keeps_slots cells dir slots (change.Erase c) e holds slot =
    rw (other_cell dir slot c e) (holds slot)
keeps_slots cells dir slots (change.EraseFrom object first) e holds slot = holds slot
