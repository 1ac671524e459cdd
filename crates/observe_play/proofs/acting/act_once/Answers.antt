use Rattle.std.proofs.Common.{ap, subst, sym, ◌∙◌}
use Rattle.std.specs.Prelude.{Err}
use Rattle.schedule_play.proofs.Steps.{fault-not-memory}
use Rattle.observed_text.specs.declared.step.ObservedStep.TheVariants as observed
use Rattle.observe_laws.specs.Reading.{observed_refused_at}
use Rattle.observe_play.specs.OnTheWay.{HasObserved}
use Rattle.observe_play.proofs.Acts.{acted-refused, acted-step}
use Rattle.observe_play.proofs.Parts.{grew-now, refuses}
use Rattle.observe_play.proofs.Steps.{step-stopped, steps-on}
use Rattle.observe_play.proofs.acting.act_once.Goals as goal

pub returns-in-Ok-write_act-clause-ends : goal.returns-in-Ok-write_act-clause-ends
returns-in-Ok-write_act-clause-ends g c = λ all rest before h.
    let f = g.W.Stage.spellings in
    let here = g.W.Stage.stands c.args.world.now in
    let there = g.W.Stage.stands c.give.new.world in
    let written = g.K.Sink.written c.args.sink.now in
    let after = g.K.Sink.written c.write_act.new.sink in
    let old = c.args.watch.now in
    let new = c.give.new.watch in
    steps-on f all c.args.number (observed.Acted c.args.act) rest before written after here there
    old new _ h
    (acted-step f all _ before written here there old new c.args.act c.in-Ok.given h
    c.requires.single c.in-Ok.ensures.made)
    c.in-Ok-write_act.ensures.all

pub returns-in-Ok-clause-ends : goal.returns-in-Ok-clause-ends
returns-in-Ok-clause-ends g c = λ all rest before h.
    let f = g.W.Stage.spellings in
    let here = g.W.Stage.stands c.args.world.now in
    let there = g.W.Stage.stands c.give.new.world in
    let written = g.K.Sink.written c.args.sink.now in
    let after = g.K.Sink.written c.write_act.new.sink in
    let old = c.args.watch.now in
    let new = c.give.new.watch in
    step-stopped f all c.args.number (observed.Acted c.args.act) rest before written after here
    there old new _ c.in-Err-write_act.stop h
    (acted-step f all _ before written here there old new c.args.act c.in-Ok.given h
    c.requires.single c.in-Ok.ensures.made)
    (λ e. c.in-Err-write_act.ensures.own (ap Err e))
    c.in-Err-write_act.ensures.part

pub returns-in-Some-clause-ends : goal.returns-in-Some-clause-ends
returns-in-Some-clause-ends g c = λ all rest before h.
    let f = g.W.Stage.spellings in
    let here = g.W.Stage.stands c.args.world.now in
    let written = g.K.Sink.written c.args.sink.now in
    let old = c.args.watch.now in
    let why = c.in-Err.refusal in
    let fault = c.in-Some.fault in
    let is = sym c.fault.ensures ∙ c.in-Some.is in
    let kept = c.in-Err.ensures.kept (fault-not-memory why fault is) in
    refuses f all rest before written (g.K.Sink.written c.refuse.new.sink)
    (g.W.Stage.stands c.give.new.world) old c.give.new.watch c.args.number fault c.refuse.result
    (subst (λ v. HasObserved f all (λ w. observed_refused_at c.args.number fault) before written
    (g.W.Stage.stands v) old) (sym kept.1)
    (acted-refused f all c.args.number rest before written here old c.args.act why fault h
    c.in-Err.ensures.refused is))
    c.refuse.ensures.refused c.refuse.ensures.wrote c.refuse.ensures.part c.refuse.ensures.own

pub returns-clause-ends : goal.returns-clause-ends
returns-clause-ends g c = λ all rest before h.
    grew-now g.W.Stage.spellings all _ before (g.K.Sink.written c.args.sink.now)
    (g.W.Stage.stands c.args.world.now) c.args.watch.now h
