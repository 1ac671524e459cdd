use Rattle.std.proofs.Common.{sym, ◌∙◌}
use Rattle.world_lines.specs.Due.{goes}
use Rattle.world_lines.proofs.Firsts.{found_from, none_from, passed_from}
use Rattle.world_lines.proofs.due.first_after.Goals as goal

pub returns-then-waits : goal.returns-then-waits
returns-then-waits c = found_from (goes c.args.from c.args.to) c.args.kept.now c.loop-n.n
    c.index-kept-n.result c.loop-n-test.true c.index-kept-n.is (sym c.waits.ensures
    ∙ c.if-waits.true) ∙ c.loop-n.invariant

pub loop-n-preserved : goal.loop-n-preserved
loop-n-preserved c = passed_from (goes c.args.from c.args.to) c.args.kept.now c.loop-n.n
    c.index-kept-n.result c.loop-n-test.true c.index-kept-n.is (sym c.waits.ensures
    ∙ c.if-waits.false) ∙ c.loop-n.invariant

pub returns : goal.returns
returns c = sym (none_from (goes c.args.from c.args.to) c.args.kept.now c.loop-n.n
    c.loop-n-test.false) ∙ c.loop-n.invariant
