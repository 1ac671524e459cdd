use Rattle.std.specs.Prelude.{Contains}
use Rattle.harp_cells.specs.declared.cell.Cell.{Cell}
use Rattle.store_folder.proofs.CutBlocks.{HasBlock}
use Rattle.store_folder.proofs.CoverLaws.{Covered}
use Rattle.store_folder.proofs.unsynced.Unsynced.add_cut_blocks.Given as goal

abbrev pub invariant-loop-block : goal.invariant-loop-block
invariant-loop-block l = record {
  can_next : (goal.iterator-loop-block).can_next l.block-iterator;
  is_finite : (goal.iterator-loop-block).is_finite l.block-iterator;
  kept : (c : Cell) → Contains l.initial.cells.items c → Contains l.cells.items c;
  covered : Covered (HasBlock l.self l.object l.cells.items) l.initial.block-iterator l.block-iterator;
}
