use Rattle.inode_dirs.proofs.TreeCells.{slots_placed, trees_hold_slots, held_slots_stand, trees_tell_slots}
use Rattle.inode_dirs.proofs.SlotCounts.{empty_holds_none}
use Rattle.inode_dirs.proofs.SlotChanges.{enters_first_free, replaces_slot, frees_slot, keeps_slots}
use Rattle.inode_dirs.proofs.laws.slot_laws.Goals as goal

pub returns : goal.returns
returns c = record {
  placed = slots_placed;
  held = trees_hold_slots;
  stand = held_slots_stand;
  empty = empty_holds_none;
  told = trees_tell_slots;
  enters = enters_first_free;
  replaces = replaces_slot;
  frees = frees_slot;
  keeps = keeps_slots;
}
