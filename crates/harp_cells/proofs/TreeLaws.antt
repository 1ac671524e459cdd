-- What the cells of a tree are at their ends, and the cells of the first tree.
use Rattle.std.proofs.Common.{◌≡◌, ℕ, ◌*◌, ◌≤◌, zero, suc, List, [], length, take, get_or, Option, None, refl, sym, ap, ◌∙◌, arith}
use Rattle.std.proofs.lemmas.List.{drop_all, get_or_past}
use Rattle.std.proofs.lemmas.List.Sums.{fold-append}
use Rattle.file_tree.specs.declared.object.Slot.{Slot}
use Rattle.file_tree.specs.declared.object.Object.{Object}
use Rattle.file_tree.specs.Book.{tree_after}
use Rattle.file_tree.specs.Tree.{first_tree, place, slots_of, used_blocks, links_of, parent_of}
use Rattle.harp_cells.specs.declared.cell.Cell.TheVariants as cell
use Rattle.harp_cells.specs.declared.value.Value.{Value}
use Rattle.harp_cells.specs.Effect.{changed}
use Rattle.harp_cells.specs.CellsOfTree.{object_value, content_of, block_of, block_value, slot_value, cells_after, stands_for, StandForSame}
use Rattle.harp_cells.specs.Laws.{NoValuesAreFirst, CellsStand, BlocksEnd, SlotsEnd, DeadAreAbsent, ChangesAppend}

past_end : (bytes : List ℕ) (block : ℕ) → length bytes ≤ 4096 * block
    → block_value (block_of bytes block) ≡ None
past_end bytes block past =
    ap (λ (xs : List ℕ). block_value (take 4096 xs)) (drop_all (4096 * block) bytes past)

past_slots : (slots : List (Option Slot)) (slot : ℕ) → length slots ≤ slot
    → slot_value (get_or slots slot None) ≡ None
past_slots slots slot past = ap slot_value (get_or_past slots slot None past)

pub blocks_end : BlocksEnd
blocks_end tree stamp last object block past = past_end (content_of (place tree object)) block past

pub slots_end : SlotsEnd
slots_end tree stamp last object slot past = past_slots (slots_of (place tree object)) slot past

pub dead_are_absent : DeadAreAbsent
dead_are_absent tree stamp last object at dead = (
  ap (λ (o : Option Object). object_value tree object o) dead,
  ap (λ (o : Option Object). block_value (block_of (content_of o) at)) dead
      ∙ past_end [] at (omega arith),
  ap (λ (o : Option Object). slot_value (get_or (slots_of o) at None)) dead
      ∙ past_slots [] at (omega arith),
)

pub cells_stand : CellsStand
cells_stand entries = record {
  tree = record {
    meta = refl;
    object = λ object. refl;
    block = λ object block. refl;
    ends = λ object block past. past_end
        (content_of (place (tree_after entries) object)) block past;
    slot = λ object slot. refl;
  };
  client = λ client. refl;
}

first_content : (object : ℕ) → content_of (place first_tree object) ≡ []
first_content zero = refl
first_content (suc zero) = refl
first_content (suc (suc object)) = refl

first_slots : (object : ℕ) → slots_of (place first_tree object) ≡ []
first_slots zero = refl
first_slots (suc zero) = refl
first_slots (suc (suc object)) = refl

first_objects : (object : ℕ) → StandForSame first_tree (cell.Object object) None
    (object_value first_tree object (place first_tree object))
unfolding links_of parent_of
first_objects zero = refl
first_objects (suc zero) = refl
first_objects (suc (suc object)) = refl

first_meta : StandForSame first_tree cell.Meta None (cells_after [] cell.Meta)
unfolding used_blocks
first_meta = refl

pub no_values_are_first : NoValuesAreFirst
no_values_are_first = record {
  tree = record {
    meta = first_meta;
    object = first_objects;
    block = λ object block. ap (λ (v : Option Value). stands_for first_tree
        (cell.Block object block) v)
        (sym (ap (λ (xs : List ℕ). block_value (block_of xs block)) (first_content object)
        ∙ past_end [] block (omega arith)));
    ends = λ object block past. refl;
    slot = λ object slot. ap (λ (v : Option Value). stands_for first_tree (cell.Slot object slot) v)
        (sym (ap (λ (xs : List (Option Slot)). slot_value (get_or xs slot None))
        (first_slots object) ∙ past_slots [] slot (omega arith)));
  };
  client = λ client. refl;
}

pub changes_append : ChangesAppend
changes_append changes more cells c = fold-append (changed c) (cells c) changes more
