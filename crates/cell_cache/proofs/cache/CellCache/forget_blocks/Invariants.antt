use Rattle.cell_cache.proofs.Blocks.{AreForgotten}
use Rattle.cell_cache.proofs.cache.CellCache.forget_blocks.Given as goal

abbrev pub invariant-loop-block : goal.invariant-loop-block
invariant-loop-block l = AreForgotten l.object l.first l.block l.block-end l.fn.self l.self
