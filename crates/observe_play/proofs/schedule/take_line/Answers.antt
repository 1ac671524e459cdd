use Rattle.std.proofs.Common.{◌≡◌, ◌∙◌, arith, ap, Ok, Result, Some, subst}
use Rattle.trace_types.specs.declared.line.LineFault.TheVariants as fault
use Rattle.schedule_text.specs.declared.fault.TextFault.{TextFault}
use Rattle.schedule_text.specs.declared.fault.TextFault.TheVariants as text_fault
use Rattle.schedule_text.specs.Fields.{Fails}
use Rattle.group_trace.specs.DiskCalls.{measures_of}
use Rattle.observed_text.specs.Reading.{observed_meaning}
use Rattle.observe_laws.specs.Reading.{observed_or_fault, with_observed_given}
use Rattle.observe_play.specs.OnTheWay.{HasObserved}
use Rattle.observe_play.proofs.NextLines.{gave-fault, gave-nothing, given-past, given-short}
use Rattle.observe_play.proofs.Parts.{grew-now, refuses}
use Rattle.observe_play.proofs.schedule.take_line.Goals as goal

-- the fault that came is what the line means
meant : {Y : Type 0} (e f : TextFault) (m : Result Y TextFault) → e ≡ f → Fails e m → Fails f m
meant e f m is fails = subst (λ x. Fails x m) is fails

pub returns-in-Ok-None-clause-ends : goal.returns-in-Ok-None-clause-ends
returns-in-Ok-None-clause-ends g c = λ all rest before h.
    gave-nothing g.W.Stage.spellings all c.args.number _ rest before
    (g.K.Sink.written c.args.sink.now) (g.W.Stage.stands c.args.world.now) c.args.watch.now h
    (given-short c.args.number c.args.line.now (omega arith) c.requires.short
    ∙ ap observed_or_fault c.in-Ok-None.ensures.exact ∙ ap Ok c.in-Ok-None.field-0-is)

pub returns-in-Ok-Some-Played-clause-ends : goal.returns-in-Ok-Some-Played-clause-ends
returns-in-Ok-Some-Played-clause-ends g c = λ all rest before h.
    let f = g.W.Stage.spellings in
    c.take_step.ensures.ends c.args.watch.now all rest before
    (subst (λ x. HasObserved f all (with_observed_given (measures_of f) c.args.number x rest) before
    (g.K.Sink.written c.args.sink.now) (g.W.Stage.stands c.args.world.now) c.args.watch.now)
    (given-short c.args.number c.args.line.now (omega arith) c.requires.short
    ∙ ap observed_or_fault c.in-Ok-Some-Played.ensures.exact
    ∙ ap Ok c.in-Ok-Some-Played.field-0-is
    ∙ ap (λ s. Ok (Some s)) c.in-Ok-Some-Played.field-0-0-is) h)

pub returns-in-Ok-Some-Acted-clause-ends : goal.returns-in-Ok-Some-Acted-clause-ends
returns-in-Ok-Some-Acted-clause-ends g c = λ all rest before h.
    let f = g.W.Stage.spellings in
    c.take_act.ensures.ends all rest before
    (subst (λ x. HasObserved f all (with_observed_given (measures_of f) c.args.number x rest) before
    (g.K.Sink.written c.args.sink.now) (g.W.Stage.stands c.args.world.now) c.args.watch.now)
    (given-short c.args.number c.args.line.now (omega arith) c.requires.short
    ∙ ap observed_or_fault c.in-Ok-Some-Acted.ensures.exact
    ∙ ap Ok c.in-Ok-Some-Acted.field-0-is
    ∙ ap (λ s. Ok (Some s)) c.in-Ok-Some-Acted.field-0-0-is) h)

pub returns-in-Err-Grammar-clause-ends : goal.returns-in-Err-Grammar-clause-ends
returns-in-Err-Grammar-clause-ends g c = λ all rest before h.
    let f = g.W.Stage.spellings in
    let here = g.W.Stage.stands c.args.world.now in
    let mid = g.K.Sink.written c.args.sink.now in
    let x = c.args.watch.now in
    let r = c.refuse-in-Err-Grammar in
    refuses f all rest before mid (g.K.Sink.written r.new.sink) here x x c.args.number fault.Grammar
    r.result
    (gave-fault f all c.args.number _ fault.Grammar rest before mid here x h
    (given-short c.args.number c.args.line.now (omega arith) c.requires.short
    ∙ ap observed_or_fault (meant _ (text_fault.Grammar c.in-Err-Grammar.field-0-0)
    (observed_meaning c.args.line.now) c.in-Err-Grammar.field-0-is c.in-Err-Grammar.ensures.exact)))
    r.ensures.refused r.ensures.wrote r.ensures.part r.ensures.own

pub returns-in-Err-NoMemory-clause-ends : goal.returns-in-Err-NoMemory-clause-ends
returns-in-Err-NoMemory-clause-ends g c = λ all rest before h.
    grew-now g.W.Stage.spellings all _ before (g.K.Sink.written c.args.sink.now)
    (g.W.Stage.stands c.args.world.now) c.args.watch.now h

pub returns-then-number-gt-MOST_LINES-clause-ends : goal.returns-then-number-gt-MOST_LINES-clause-ends
returns-then-number-gt-MOST_LINES-clause-ends g c = λ all rest before h.
    let f = g.W.Stage.spellings in
    let here = g.W.Stage.stands c.args.world.now in
    let mid = g.K.Sink.written c.args.sink.now in
    let x = c.args.watch.now in
    refuses f all rest before mid (g.K.Sink.written c.refuse.new.sink) here x x c.args.number
    fault.TooMany c.refuse.result
    (gave-fault f all c.args.number _ fault.TooMany rest before mid here x h
    (given-past c.args.number c.args.line.now (omega arith)))
    c.refuse.ensures.refused c.refuse.ensures.wrote c.refuse.ensures.part c.refuse.ensures.own
