use Rattle.std.proofs.Common.{◌≡◌, ◌≤◌, get_or, None}
use Rattle.file_tree.specs.Tree.{Slots}
use Rattle.inode_dirs.specs.Slots.{TellsSlots}
use Rattle.tree_listing.specs.Listing.{of_each_below, slot_listed}
use Rattle.tree_listing.proofs.slots.list_slots.Given as goal

-- the used slots so far are listed
abbrev pub invariant-loop-slot : goal.invariant-loop-slot
invariant-loop-slot g l = record {
  kept : g.R.CellRead.cells l.cells ≡ g.R.CellRead.cells l.fn.cells;
  left : g.R.CellRead.left l.cells ≡ g.R.CellRead.left l.fn.cells;
  count : g.R.CellRead.faults l.fn.cells ≤ g.R.CellRead.faults l.cells;
  listed : (held : Slots) → TellsSlots (g.R.CellRead.cells l.fn.cells) l.dir l.slots held
      → l.listed ≡ of_each_below l.slot (λ i. slot_listed i (get_or held i None));
}
