-- What stands at a number whose object, blocks or slots change.
use Rattle.std.proofs.Common.{◌≡◌, ℕ, ◌*◌, ◌≤◌, ◌==◌, Bool, true, false, List, [], ◌∷◌, length, get_or, Some, None, refl, sym, ap, ◌∙◌, subst, inl, inr}
use Rattle.std.specs.List.{list_any}
use Rattle.std.proofs.lemmas.Bool.{cases_Bool, or_parts, or_from, or_left, or_right, eqb-true, ne_eqb}
use Rattle.file_tree.specs.declared.object.Slot.{Slot}
use Rattle.file_tree.specs.Tree.{Tree, Slots, place, slots_of, free_from, with_entry}
use Rattle.harp_cells.specs.declared.cell.Cell.{Cell}
use Rattle.harp_cells.specs.declared.cell.Cell.TheVariants as cell
use Rattle.harp_cells.specs.Effect.{Cells, after, is_cell}
use Rattle.harp_cells.specs.CellsOfTree.{StandForSame, content_of, block_of, block_value, slot_value, is_regular_at, stands_for}
use Rattle.harp_cells.proofs.CellLemmas.{is_cell_itself}
use Rattle.inode_blocks.specs.Holds.{HoldsBytes, EndsAt}
use Rattle.inode_blocks.specs.Changes.{is_block_of}
use Rattle.inode_blocks.proofs.TreeLaws.{files_stand, past_end}
use Rattle.inode_dirs.specs.Slots.{HoldsSlots}
use Rattle.inode_dirs.proofs.SlotChanges.{same_slot, slot_if, entry_differs}
use Rattle.cell_changes.specs.Stands.{StandsAt, is_cell_of}
use Rattle.cell_changes.specs.Table.{content_size, set_by}
use Rattle.cell_changes.proofs.Frame.{other_cell, stands_by, blocks_kept}
use Rattle.cell_changes.proofs.SetCells.{is_among, set_gives, set_leaves}

-- ---- cells among others

pub among_first : (c : Cell) (cells : List Cell) → is_among (c ∷ cells) c ≡ true
among_first c cells = or_left (is_cell c c) (is_among cells c) (is_cell_itself c c refl)

pub among_later : (d c : Cell) (cells : List Cell) → is_among cells c ≡ true
    → is_among (d ∷ cells) c ≡ true
among_later d c cells h = or_right (is_cell d c) (is_among cells c) h

-- a number's cells are not among those of others
pub among_others : (cells : List Cell) (number : ℕ) (c : Cell)
    → list_any (is_cell_of number) cells ≡ false
    → is_cell_of number c ≡ true
    → is_among cells c ≡ false
among_others [] number c other of = refl
among_others (d ∷ cells) number c other of =
    let parts = or_parts (is_cell_of number d) (list_any (is_cell_of number) cells) other in
    or_from (is_cell d c) (is_among cells c) (other_cell number d c parts.0 of)
    (among_others cells number c parts.1 of)

-- nor is a number's cell a block of another
pub other_blocks : (number of : ℕ) (c : Cell) → (number ≡ of → ⊥) → is_cell_of number c ≡ true
    → is_block_of of c ≡ false
other_blocks number of cell.Meta other is = refl
other_blocks number of (cell.Object o) other is = refl
other_blocks number of (cell.Block o b) other is =
    ne_eqb o of (λ e. other (sym (eqb-true o number is) ∙ e))
other_blocks number of (cell.Slot o s) other is = refl
other_blocks number of (cell.Client n) other is = refl
other_blocks number of (cell.Saved p) other is = refl

-- ---- numbers that are set

-- the blocks of a number stand, and end with its content
pub record BlocksStand (cells : Cells) (tree : Tree) (number : ℕ) : Type 0 where
  pub block : (block : ℕ) → StandForSame tree (cell.Block number block)
      (cells (cell.Block number block))
      (block_value (block_of (content_of (place tree number)) block))
  pub ends : EndsAt cells number (content_size tree number)

pub blocks_by : (cells later : Cells) (tree : Tree) (number : ℕ)
    → ((block : ℕ) → later (cell.Block number block) ≡ cells (cell.Block number block))
    → BlocksStand cells tree number → BlocksStand later tree number
blocks_by cells later tree number same stand = record {
  block = λ block. ap (stands_for tree (cell.Block number block)) (same block) ∙ stand.block block;
  ends = λ block past. same block ∙ stand.ends block past;
}

-- a number keeps its content
pub blocks_stay : (cells : Cells) (old new : Tree) (number : ℕ)
    → content_of (place new number) ≡ content_of
    (place old number)
    → is_regular_at (place new number) ≡ is_regular_at (place old number)
    → StandsAt cells old number
    → BlocksStand cells new number
blocks_stay cells old new number content kind stand = record {
  block = blocks_kept cells old new number content kind stand;
  ends = λ block past. stand.ends block
      (subst (λ (xs : List ℕ). length xs ≤ 4096 * block) content past);
}

-- cells hold the bytes of a file
pub file_stands : (cells : Cells) (tree : Tree) (number : ℕ) (bytes : List ℕ)
    → is_regular_at (place tree number) ≡ true
    → content_of (place tree number) ≡ bytes → HoldsBytes cells number bytes
    → EndsAt cells number (length bytes)
    → BlocksStand cells tree number
file_stands cells tree number bytes regular content holds ends = record {
  block = files_stand cells tree number regular (rw content holds);
  ends = rw content ends;
}

-- the blocks are exactly those of the content
pub exact_stands : (cells : Cells) (tree : Tree) (number : ℕ) (bytes : List ℕ)
    → content_of (place tree number) ≡ bytes
    → ((block : ℕ) → cells (cell.Block number block) ≡ block_value (block_of bytes block))
    → BlocksStand cells tree number
exact_stands cells tree number bytes content exact = record {
  block = λ block. ap (stands_for tree (cell.Block number block))
      (exact block ∙ ap (λ (xs : List ℕ). block_value (block_of xs block)) (sym content));
  ends = λ block past. exact block
      ∙ past_end bytes block (subst (λ (xs : List ℕ). length xs ≤ 4096 * block) content past);
}

-- a number whose object is set, and no block
pub touched : (cells : Cells) (tree : Tree) (set : List Cell) (number : ℕ)
    → is_among set (cell.Object number) ≡ true
    → ((block : ℕ) → is_among set (cell.Block number block) ≡ false) → BlocksStand cells tree number
    → HoldsSlots (after (set_by tree set) cells) number (slots_of (place tree number))
    → StandsAt (after (set_by tree set) cells) tree number
touched cells tree set number is no_block blocks slots =
    let stand = blocks_by cells (after (set_by tree set) cells) tree number
    (λ block. set_leaves tree set cells (cell.Block number block) (no_block block)) blocks in
    record {
      object = ap (stands_for tree (cell.Object number))
          (set_gives tree set cells (cell.Object number) is);
      block = stand.block;
      ends = stand.ends;
      slot = slots;
    }

-- a number of which no cell is set
pub untouched : (cells : Cells) (tree : Tree) (set : List Cell) (number : ℕ)
    → list_any (is_cell_of number) set ≡ false
    → StandsAt cells tree number → StandsAt (after (set_by tree set) cells) tree number
untouched cells tree set number other stand =
    stands_by cells (after (set_by tree set) cells) tree number
    (λ c of. set_leaves tree set cells c (among_others set number c other of)) stand

-- ---- slots

-- the slots of which the cells aren't set are as they were
pub slots_set : (cells : Cells) (tree : Tree) (set : List Cell) (dir : ℕ) (slots : Slots)
    → HoldsSlots cells dir slots
    → ((slot : ℕ) → is_among set (cell.Slot dir slot) ≡ false
    → get_or (slots_of (place tree dir)) slot None ≡ get_or slots slot None)
    → HoldsSlots (after (set_by tree set) cells) dir (slots_of (place tree dir))
slots_set cells tree set dir slots holds same slot =
    elim (cases_Bool (is_among set (cell.Slot dir slot))) [
      | inl t ↦ set_gives tree set cells (cell.Slot dir slot) t
      | inr t ↦ set_leaves tree set cells (cell.Slot dir slot) t ∙ holds slot
          ∙ ap slot_value (sym (same slot t))
    ]

-- a new entry changes the first free slot alone
pub entered_beside : (dir : ℕ) (slots : Slots) (s : Slot) (set : List Cell) (slot : ℕ)
    → is_among (cell.Slot dir (free_from 0 slots) ∷ set) (cell.Slot dir slot) ≡ false
    → get_or (with_entry slots s) slot None ≡ get_or slots slot None
entered_beside dir slots s set slot other =
    let parts = or_parts (is_cell (cell.Slot dir (free_from 0 slots)) (cell.Slot dir slot))
    (is_among set (cell.Slot dir slot)) other in
    let beside : (free_from 0 slots == slot) ≡ false = sym (same_slot dir (free_from 0 slots) slot)
    ∙ parts.0 in
    entry_differs slots s slot ∙ ap
    (λ (b : Bool). slot_if b (Some s) (get_or slots slot None)) beside
