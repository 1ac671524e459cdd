use Rattle.std.proofs.Common.{ap, subst, sym, ◌∙◌, ◌++◌}
use Rattle.std.specs.Prelude.{Err}
use Rattle.std.specs.Io.KnownBytes.{Appends}
use Rattle.harp_types.specs.Streams.{GrewByPart}
use Rattle.schedule_play.specs.Trace.{trace_text}
use Rattle.schedule_play.proofs.Steps.{fault-not-memory}
use Rattle.observed_text.specs.declared.step.ObservedStep.TheVariants as observed
use Rattle.observe_laws.specs.Reading.{observed_refused_at}
use Rattle.observe_play.specs.OnTheWay.{HasObserved}
use Rattle.observe_play.proofs.Parts.{grew-now, refuses}
use Rattle.observe_play.proofs.Played.{played-refused, played-step, played-told}
use Rattle.observe_play.proofs.Steps.{step-stopped, steps-on}
use Rattle.observe_play.proofs.stepping.take_elementary.Goals as goal

pub returns-in-Ok-write_with_lines-clause-ends : goal.returns-in-Ok-write_with_lines-clause-ends
returns-in-Ok-write_with_lines-clause-ends g c = λ x all rest before h.
    let f = g.W.Stage.spellings in
    let here = g.W.Stage.stands c.args.world.now in
    let there = g.W.Stage.stands c.step.new.self in
    let written = g.K.Sink.written c.args.sink.now in
    let after = g.K.Sink.written c.write_with_lines.new.sink in
    let begun = c.args.room.now.text.items in
    steps-on f all c.args.number (observed.Played c.args.step) rest before written after here there
    x x _ h
    (played-step f all _ before written here there x c.args.step c.step.new.lines.items h
    c.requires.elementary c.in-Ok.ensures.ok)
    (subst (Appends written after)
    (ap (λ ls. begun ++ trace_text ls) c.as_slice.ensures.value
    ∙ played-told c.args.step c.step.new.lines.items begun c.requires.begun)
    c.in-Ok-write_with_lines.ensures.all)

pub returns-in-Err-write_with_lines-clause-ends : goal.returns-in-Err-write_with_lines-clause-ends
returns-in-Err-write_with_lines-clause-ends g c = λ x all rest before h.
    let f = g.W.Stage.spellings in
    let here = g.W.Stage.stands c.args.world.now in
    let there = g.W.Stage.stands c.step.new.self in
    let written = g.K.Sink.written c.args.sink.now in
    let after = g.K.Sink.written c.write_with_lines.new.sink in
    let begun = c.args.room.now.text.items in
    step-stopped f all c.args.number (observed.Played c.args.step) rest before written after here
    there x x _ c.in-Err-write_with_lines.stop h
    (played-step f all _ before written here there x c.args.step c.step.new.lines.items h
    c.requires.elementary c.in-Ok.ensures.ok)
    (λ e. c.in-Err-write_with_lines.ensures.own (ap Err e))
    (subst (GrewByPart written after)
    (ap (λ ls. begun ++ trace_text ls) c.as_slice.ensures.value
    ∙ played-told c.args.step c.step.new.lines.items begun c.requires.begun)
    c.in-Err-write_with_lines.ensures.part)

pub returns-in-Some-clause-ends : goal.returns-in-Some-clause-ends
returns-in-Some-clause-ends g c = λ x all rest before h.
    let f = g.W.Stage.spellings in
    let here = g.W.Stage.stands c.args.world.now in
    let written = g.K.Sink.written c.args.sink.now in
    let why = c.in-Err.refusal in
    let fault = c.in-Some.fault in
    let is = sym c.fault.ensures ∙ c.in-Some.is in
    refuses f all rest before written (g.K.Sink.written c.refuse.new.sink)
    (g.W.Stage.stands c.step.new.self) x x c.args.number fault c.refuse.result
    (subst (λ v. HasObserved f all (λ w. observed_refused_at c.args.number fault) before written
    (g.W.Stage.stands v) x) (sym (c.in-Err.ensures.kept (fault-not-memory why fault is)))
    (played-refused f all c.args.number rest before written here x c.args.step why fault h
    c.in-Err.ensures.err is))
    c.refuse.ensures.refused c.refuse.ensures.wrote c.refuse.ensures.part c.refuse.ensures.own

pub returns-in-None-clause-ends : goal.returns-in-None-clause-ends
returns-in-None-clause-ends g c = λ x all rest before h.
    grew-now g.W.Stage.spellings all _ before (g.K.Sink.written c.args.sink.now)
    (g.W.Stage.stands c.args.world.now) x h
