use Rattle.std.proofs.Common.{◌≡◌}
use Rattle.server_rows.proofs.disks.walks.fetched_by.Given as goal

abbrev pub invariant-loop-place : goal.invariant-loop-place
invariant-loop-place g l = g.U.CellRead.left l.cells ≡ g.U.CellRead.left l.fn.cells
