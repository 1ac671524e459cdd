use Rattle.std.proofs.Common.{◌≡◌, ◌≤◌, Some}
use Rattle.harp_cells.specs.Effect.{Cells}
use Rattle.audit.specs.Pictures.{AreSlots, slots_by}
use Rattle.audit.proofs.gathering.slots_of.Given as goal

-- the slots so far are read
abbrev pub invariant-loop-slot : goal.invariant-loop-slot
invariant-loop-slot g l = record {
  kept : g.R.CellRead.cells l.cells ≡ g.R.CellRead.cells l.fn.cells;
  left : g.R.CellRead.left l.cells ≡ g.R.CellRead.left l.fn.cells;
  count : g.R.CellRead.faults l.fn.cells ≤ g.R.CellRead.faults l.cells;
  form : AreSlots l.slot l.slots;
  slots : (held : Cells) → g.R.CellRead.cells l.fn.cells ≡ Some held
      → l.slots ≡ slots_by held l.number l.slot;
}
