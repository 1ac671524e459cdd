use Rattle.std.proofs.Common.{◌++◌, append_assoc, sym, ap, subst, ◌∙◌}
use Rattle.door_play.specs.Replies.{answers_in}
use Rattle.door_play.specs.OnTheWay.{HasHeard, HasStopped}
use Rattle.door_play.proofs.Hears.{fault-not-memory, hears-on, stops}
use Rattle.door_play.proofs.stepping.take.Goals as goal

pub returns-in_ok-keep_answers-in-Ok-clause-ends : goal.returns-in_ok-keep_answers-in-Ok-clause-ends
returns-in_ok-keep_answers-in-Ok-clause-ends g c = λ all rest before h.
    let f = g.W.Stage.spellings in
    let there = g.W.Stage.stands c.step.new.self in
    let lines = c.step.new.lines.items in
    subst (λ answers. HasHeard f all rest answers there)
    (append_assoc before c.args.ear.now.heard.items (answers_in lines)
    ∙ ap (λ found. before ++ found) (sym (c.in_ok-keep_answers-in-Ok.ensures
    ∙ ap (λ ls. c.args.ear.now.heard.items ++ answers_in ls) c.as_mut_slice.ensures.value)))
    (hears-on f all rest (before ++ c.args.ear.now.heard.items) (g.W.Stage.stands c.args.world.now)
    there c.args.step lines c.requires.elementary h c.in-Ok.ensures.ok)

pub returns-in-Some-clause-ends : goal.returns-in-Some-clause-ends
returns-in-Some-clause-ends g c = λ all rest before h.
    let f = g.W.Stage.spellings in
    let why = c.in-Err.refusal in
    let fault = c.in-Some.field-0 in
    let is = sym c.fault.ensures ∙ c.in-Some.is in
    subst (λ v. HasStopped f all (g.W.Stage.stands v))
    (sym (c.in-Err.ensures.kept (fault-not-memory why fault is)))
    (stops f all rest (before ++ c.args.ear.now.heard.items) (g.W.Stage.stands c.args.world.now)
    c.args.step why fault h c.in-Err.ensures.err is)
