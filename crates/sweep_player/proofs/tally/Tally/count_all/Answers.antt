use Rattle.sweep_player.proofs.TallyLaws.{taken-all, taken-none, taken-one}
use Rattle.sweep_player.proofs.tally.Tally.count_all.Goals as goal

pub loop-line-init : goal.loop-line-init
loop-line-init c = λ trace h. taken-none trace c.args.lines.now c.args.self.now h

pub loop-line-preserved : goal.loop-line-preserved
loop-line-preserved c = λ trace h.
    taken-one trace c.args.lines.now c.loop-line.line-index c.line-item.result c.loop-line.self
    c.count.new.self c.loop-line-test.true c.line-item.is c.in_ok-count.ensures
    (c.loop-line.invariant trace h)

pub returns : goal.returns
returns c = λ trace h.
    taken-all trace c.args.lines.now c.loop-line.line-index c.loop-line.self
    c.loop-line-test.false (c.loop-line.invariant trace h)
