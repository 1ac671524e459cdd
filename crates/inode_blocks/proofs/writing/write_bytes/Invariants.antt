use Rattle.std.proofs.Common.{◌≡◌, ◌≤◌, ◌-◌, ◌/◌, ◌++◌, map, Some}
use Rattle.std.specs.List.{range_with_len}
use Rattle.harp_cells.specs.Effect.{Cells}
use Rattle.inode_blocks.specs.Changes.{BeginsWith, block_put, block_written, put}
use Rattle.inode_blocks.proofs.writing.write_bytes.Given as goal

abbrev pub invariant-loop-block : goal.invariant-loop-block
invariant-loop-block g l = record {
  puts : (held : Cells) → g.R.CellRead.cells l.fn.cells ≡ Some held
      → l.changes.items ≡ l.fn.changes.items ++ map
      (λ block. put l.fn.object block
      (block_written held l.fn.object l.fn.size l.fn.offset l.fn.bytes block))
      (range_with_len (l.fn.offset / 4096) (l.block - l.fn.offset / 4096));
  blocks : map block_put l.changes.items ≡ map block_put l.fn.changes.items ++ map
      (λ block. Some (l.fn.object, block))
      (range_with_len (l.fn.offset / 4096) (l.block - l.fn.offset / 4096));
  front : BeginsWith l.changes.items l.fn.changes.items;
  kept : g.R.CellRead.cells l.cells ≡ g.R.CellRead.cells l.fn.cells;
  left : g.R.CellRead.left l.cells ≡ g.R.CellRead.left l.fn.cells;
  count : g.R.CellRead.faults l.fn.cells ≤ g.R.CellRead.faults l.cells;
}
