use Rattle.schedule_play.proofs.NextSteps.{is-alone}
use Rattle.observe_play.proofs.NextSteps.{gave-step}
use Rattle.observe_play.proofs.Parts.{grew-now}
use Rattle.observe_play.proofs.stepping.take_step.Goals as goal

pub returns-in-Ok-clause-ends : goal.returns-in-Ok-clause-ends
returns-in-Ok-clause-ends g c = λ x all rest before h.
    c.take_elementary.ensures.ends x all rest before
    (gave-step g.W.Stage.spellings all c.args.number c.args.step rest before
    (g.K.Sink.written c.args.sink.now) (g.W.Stage.stands c.args.world.now) x
    (is-alone c.args.step c.in_default.not-Pump) h)

pub returns-in-Err-clause-ends : goal.returns-in-Err-clause-ends
returns-in-Err-clause-ends g c = λ x all rest before h.
    grew-now g.W.Stage.spellings all _ before (g.K.Sink.written c.args.sink.now)
    (g.W.Stage.stands c.args.world.now) x h
