use Rattle.observe_play.proofs.Drains.{gave-act, is-one}
use Rattle.observe_play.proofs.acting.take_act.Goals as goal

pub act_once-requires-clause-single : goal.act_once-requires-clause-single
act_once-requires-clause-single g c = is-one c.args.act c.in_default.not-Drain

pub returns-in_default-clause-ends : goal.returns-in_default-clause-ends
returns-in_default-clause-ends g c = λ all rest before h.
    c.act_once.ensures.ends all rest before
    (gave-act g.W.Stage.spellings all c.args.number c.args.act rest before
    (g.K.Sink.written c.args.sink.now) (g.W.Stage.stands c.args.world.now) c.args.watch.now
    (is-one c.args.act c.in_default.not-Drain) h)
