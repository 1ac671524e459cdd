use Rattle.std.proofs.Common.{◌≡◌, ◌≤◌, Some}
use Rattle.harp_cells.specs.Effect.{Cells}
use Rattle.audit.specs.Pictures.{AreInOrder, portraits_below}
use Rattle.audit.proofs.gathering.gather.Given as goal

-- the objects so far are gathered, in their order
abbrev pub invariant-loop-number : goal.invariant-loop-number
invariant-loop-number g l = record {
  kept : g.R.CellRead.cells l.cells ≡ g.R.CellRead.cells l.fn.cells;
  left : g.R.CellRead.left l.cells ≡ g.R.CellRead.left l.fn.cells;
  count : g.R.CellRead.faults l.fn.cells ≤ g.R.CellRead.faults l.cells;
  order : AreInOrder 1 l.number l.objects;
  objects : (held : Cells) → g.R.CellRead.cells l.fn.cells ≡ Some held
      → l.objects ≡ portraits_below held l.number;
}
