use Rattle.std.proofs.Common.{◌≡◌, false, length}
use Rattle.harp_cells.specs.declared.cell.Cell.{Cell}
use Rattle.harp_cells.specs.Effect.{is_block_from}
use Rattle.harp_cells.specs.Memory.{cell_in}
use Rattle.harp_cells.proofs.memory.MemCells.erase_from.Given as goal

-- the other cells are as before
abbrev pub invariant-loop-block : goal.invariant-loop-block
invariant-loop-block l = record {
  others : (c : Cell) → is_block_from l.object l.first c ≡ false
      → cell_in l.self-inside.values.entries c ≡ cell_in l.fn.self.entries c;
  fetched : l.self-inside.fetched ≡ l.fn.self.fetched;
}

abbrev pub decreases-loop-block : goal.decreases-loop-block
decreases-loop-block l = length l.self-inside.values.entries
