use Rattle.std.proofs.Common.{◌≡◌, ◌≤◌, drop}
use Rattle.file_tree.specs.Tree.{Slots, entry, entry_from, free_from}
use Rattle.inode_dirs.specs.Slots.{TellsSlots}
use Rattle.inode_dirs.proofs.entries.find_or_slot.Given as goal

abbrev pub invariant-loop-slot : goal.invariant-loop-slot
invariant-loop-slot g l = record {
  kept : g.R.CellRead.cells l.cells ≡ g.R.CellRead.cells l.fn.cells;
  left : g.R.CellRead.left l.cells ≡ g.R.CellRead.left l.fn.cells;
  count : g.R.CellRead.faults l.fn.cells ≤ g.R.CellRead.faults l.cells;
  found : (held : Slots) → TellsSlots (g.R.CellRead.cells l.fn.cells) l.dir l.slots held
      → entry_from l.slot (drop l.slot held) l.name ≡ entry held l.name;
  free : (held : Slots) → TellsSlots (g.R.CellRead.cells l.fn.cells) l.dir l.slots held
      → free_from l.slot (drop l.slot held) ≡ free_from 0 held;
}
