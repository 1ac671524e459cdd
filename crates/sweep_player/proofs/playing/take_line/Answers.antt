use Rattle.std.proofs.Common.{◌+◌, ◌∙◌, sym}
use Rattle.sweep_player.proofs.ClockLaws.{line-below, line-readings}
use Rattle.sweep_player.proofs.PlayLaws.{line-far, line-near, line-past}
use Rattle.sweep_player.proofs.playing.take_line.Goals as goal

pub returns-then-before-ge-LINES-clause-counts : goal.returns-then-before-ge-LINES-clause-counts
returns-then-before-ge-LINES-clause-counts g c = λ all rest h.
    line-past g.W.Stage.spellings all c.args.before c.args.step rest c.args.tally.now
    (g.W.Stage.stands c.args.world.now) c.if-before-ge-LINES.true h

pub returns-then-not-moves_within-clause-counts : goal.returns-then-not-moves_within-clause-counts
returns-then-not-moves_within-clause-counts g c = λ all rest h.
    line-far g.W.Stage.spellings all c.args.before c.args.step rest c.args.tally.now
    (g.W.Stage.stands c.args.world.now) c.if-before-ge-LINES.false
    (sym c.moves_within.ensures ∙ c.if-not-moves_within.true) h

pub take_step-requires-clause-readings : goal.take_step-requires-clause-readings
take_step-requires-clause-readings g c =
    line-readings (g.W.Stage.clocks c.args.world.now) c.args.before c.args.step
    c.if-before-ge-LINES.false c.requires
    (sym c.moves_within.ensures ∙ c.if-not-moves_within.false)

pub returns-clause-counts : goal.returns-clause-counts
returns-clause-counts g c = λ all rest h.
    c.take_step.ensures.counts all (c.args.before + 1) rest
    (line-near g.W.Stage.spellings all c.args.before c.args.step rest
    c.args.tally.now (g.W.Stage.stands c.args.world.now) c.if-before-ge-LINES.false
    (sym c.moves_within.ensures ∙ c.if-not-moves_within.false) h)

pub returns-clause-below : goal.returns-clause-below
returns-clause-below g c = λ went.
    line-below (g.W.Stage.clocks c.args.world.now) (g.W.Stage.clocks c.take_step.new.world)
    c.args.before c.args.step c.requires
    (sym c.moves_within.ensures ∙ c.if-not-moves_within.false)
    (c.take_step.ensures.clocks went)
