use Rattle.std.proofs.Common.{◌≡◌, ◌≤◌, ℕ, List, length, Some}
use Rattle.harp_cells.specs.Effect.{Cells}
use Rattle.harp_cells.specs.CellsOfTree.{block_of}
use Rattle.inode_blocks.specs.Holds.{HoldsBytes}
use Rattle.tree_listing.specs.Listing.{block_listed, of_each_below}
use Rattle.tree_listing.proofs.blocks.list_blocks.Given as goal

-- the blocks so far are listed, where they have another byte than 0
abbrev pub invariant-loop-block : goal.invariant-loop-block
invariant-loop-block g l = record {
  kept : g.R.CellRead.cells l.cells ≡ g.R.CellRead.cells l.fn.cells;
  left : g.R.CellRead.left l.cells ≡ g.R.CellRead.left l.fn.cells;
  count : g.R.CellRead.faults l.fn.cells ≤ g.R.CellRead.faults l.cells;
  listed : (held : Cells) (bytes : List ℕ) → g.R.CellRead.cells l.fn.cells ≡ Some held
      → HoldsBytes held l.file bytes → length bytes ≡ l.size
      → l.listed ≡ of_each_below l.block (λ i. block_listed i (block_of bytes i));
}
