use Rattle.std.proofs.Common.{◌≡◌, ◌≤◌, Some}
use Rattle.file_tree.specs.Tree.{place}
use Rattle.cell_changes.specs.TreeCells.{TreeCells}
use Rattle.tree_listing.specs.Listing.{object_listed, of_each_below}
use Rattle.tree_listing.proofs.tree.list_tree.Given as goal

-- the objects so far are listed, where they live
abbrev pub invariant-loop-number : goal.invariant-loop-number
invariant-loop-number g l = record {
  kept : g.R.CellRead.cells l.cells ≡ g.R.CellRead.cells l.fn.cells;
  left : g.R.CellRead.left l.cells ≡ g.R.CellRead.left l.fn.cells;
  count : g.R.CellRead.faults l.fn.cells ≤ g.R.CellRead.faults l.cells;
  objects : (t : TreeCells) → g.R.CellRead.cells l.fn.cells ≡ Some t.cells
      → l.objects ≡ of_each_below l.number (λ n. object_listed t.tree n (place t.tree n));
}
