use Rattle.std.proofs.Common.{rules, arith, ◌≤◌, ◌+◌}
use Rattle.cell_cache.proofs.Blocks.{AreForgotten, all_forgotten, one_forgotten}
use Rattle.cell_cache.proofs.cache.CellCache.forget_blocks.Goals as goal
use Rattle.cell_cache.proofs.cache.CellCache.forget_blocks.Goals.{After-forget_cell}

-- after a turn
forgotten : (c : After-forget_cell)
    → AreForgotten c.args.object c.args.first (c.loop-block.block + 1)
    c.last_block-block-end.result c.args.self.now c.forget_cell.new.self
forgotten c =
    one_forgotten c.args.object c.args.first c.loop-block.block c.last_block-block-end.result
    c.args.self.now c.loop-block.self c.forget_cell.new.self
    c.loop-block.auto.block c.loop-block.invariant c.forget_cell.ensures

pub loop-block-preserved : goal.loop-block-preserved
loop-block-preserved c = forgotten (goal.at.loop-block-preserved c).After-forget_cell

pub returns : goal.returns
returns c =
    all_forgotten c.args.object c.args.first c.loop-block.block c.last_block-block-end.result
    c.args.self.now c.loop-block.self c.loop-block.invariant c.loop-block-test.false

pub returns-2 : goal.returns-2
returns-2 c =
    let at_last : c.last_block-block-end.result ≤ c.loop-block.block = search rules in
    all_forgotten c.args.object c.args.first (c.loop-block.block + 1)
    c.last_block-block-end.result c.args.self.now c.forget_cell.new.self
    (forgotten (goal.at.returns-2 c).After-forget_cell) (omega (arith, at_last))
