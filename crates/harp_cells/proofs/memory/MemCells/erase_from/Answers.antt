use Rattle.std.proofs.Common.{◌∙◌}
use Rattle.harp_cells.specs.Memory.{cell_in}
use Rattle.harp_cells.proofs.KeyOrder.{others_stay}
use Rattle.harp_cells.proofs.memory.MemCells.erase_from.Goals as goal

pub loop-block-preserved : goal.loop-block-preserved
loop-block-preserved c = record {
  others = λ d h.
      others_stay c.args.object c.args.first c.in-Some.block d
      (cell_in c.loop-block.self-inside.values.entries d)
      (cell_in c.drop_value.new.values.entries d)
      c.in-Some.ensures.from h (c.drop_value.ensures.gone d)
      ∙ c.loop-block.invariant.others d h;
  fetched = c.loop-block.invariant.fetched;
}
