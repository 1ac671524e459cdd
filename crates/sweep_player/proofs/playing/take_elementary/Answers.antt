use Rattle.std.proofs.Common.{◌++◌, ◌∙◌, subst, sym}
use Rattle.sweep_player.specs.Tally.{IsTallyOf}
use Rattle.sweep_player.proofs.Counting.{step-counted, step-refused}
use Rattle.sweep_player.proofs.playing.take_elementary.Goals as goal

pub returns-in_ok-count_all-in-Ok-clause-counts : goal.returns-in_ok-count_all-in-Ok-clause-counts
returns-in_ok-count_all-in-Ok-clause-counts g c = λ all number rest h.
    step-counted g.W.Stage.spellings all number rest c.args.tally.now c.count_all.new.self
    (g.W.Stage.stands c.args.world.now) (g.W.Stage.stands c.step.new.self) c.args.step
    c.step.new.lines.items c.requires.elementary h c.in-Ok.ensures.ok
    (λ trace t. subst (λ ls. IsTallyOf (trace ++ ls) c.count_all.new.self) c.as_slice.ensures.value
    (c.in_ok-count_all-in-Ok.ensures trace t))

pub returns-in-Some-clause-counts : goal.returns-in-Some-clause-counts
returns-in-Some-clause-counts g c = λ all number rest h.
    step-refused g.W.Stage.spellings all number rest c.args.tally.now
    (g.W.Stage.stands c.args.world.now) c.args.step c.in-Err.refusal _ h c.in-Err.ensures.err
    (sym c.fault.ensures ∙ c.in-Some.is)
