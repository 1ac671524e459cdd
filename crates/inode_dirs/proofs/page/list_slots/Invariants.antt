use Rattle.std.proofs.Common.{◌≡◌, ◌≤◌, ◌<◌, ◌+◌, ◌^◌, drop}
use Rattle.file_tree.specs.Tree.{Slots}
use Rattle.file_tree.specs.Outcome.{entries_from}
use Rattle.inode_dirs.specs.Slots.{TellsSlots}
use Rattle.inode_dirs.specs.Pages.{page_after}
use Rattle.inode_dirs.proofs.page.list_slots.Given as goal

abbrev pub invariant-loop-slot : goal.invariant-loop-slot
invariant-loop-slot g l = record {
  kept : g.R.CellRead.cells l.cells ≡ g.R.CellRead.cells l.fn.cells;
  left : g.R.CellRead.left l.cells ≡ g.R.CellRead.left l.fn.cells;
  count : g.R.CellRead.faults l.fn.cells ≤ g.R.CellRead.faults l.cells;
  page : (held : Slots) → TellsSlots (g.R.CellRead.cells l.fn.cells) l.dir l.slots held
      → l.slots + 2 < 2 ^ 32
      → page_after l.page.entries.items l.page.above l.page.room
      (entries_from (l.slot + 3) (drop l.slot held))
      ≡ page_after l.fn.page.entries.items l.fn.page.above l.fn.page.room (entries_from 3 held);
}
