use Rattle.schedule_play.proofs.Parts.{grew-now}
use Rattle.schedule_play.proofs.step.deliver.Goals as goal

pub returns-in-Err-clause-ends : goal.returns-in-Err-clause-ends
returns-in-Err-clause-ends g c = λ all rest before h.
    grew-now g.W.Stage.spellings all _ before (g.K.Sink.written c.args.sink.now)
    (g.W.Stage.stands c.args.world.now) h
