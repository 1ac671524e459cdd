use Rattle.std.proofs.Common.{◌≡◌, ◌≤◌, ◌-◌, ℕ, List, length, take, drop, max, Some}
use Rattle.harp_cells.specs.Effect.{Cells}
use Rattle.inode_blocks.specs.Holds.{HoldsBytes}
use Rattle.inode_blocks.proofs.reading.read_bytes.Given as goal

abbrev pub invariant-loop-at : goal.invariant-loop-at
invariant-loop-at g l = record {
  from : l.fn.offset ≤ l.at;
  to : l.at ≤ max l.end l.fn.offset;
  size : length l.bytes.items ≡ l.at - l.fn.offset;
  range : (held : Cells) (old : List ℕ) → g.R.CellRead.cells l.fn.cells ≡ Some held
      → HoldsBytes held l.fn.object old → length old ≡ l.fn.size
      → l.bytes.items ≡ take (l.at - l.fn.offset) (drop l.fn.offset old);
  kept : g.R.CellRead.cells l.cells ≡ g.R.CellRead.cells l.fn.cells;
  left : g.R.CellRead.left l.cells ≡ g.R.CellRead.left l.fn.cells;
  count : g.R.CellRead.faults l.fn.cells ≤ g.R.CellRead.faults l.cells;
}

abbrev pub decreases-loop-at : goal.decreases-loop-at
decreases-loop-at g l = l.end - l.at
