use Rattle.std.proofs.Common.{◌<◌, ◌≤◌, ◌∷◌, ◌++◌, [], ap, arith, length, sym, ◌∙◌}
use Rattle.trace_types.specs.declared.line.Line.{Line}
use Rattle.door_play.specs.Replies.{answers_in}
use Rattle.door_play.proofs.Hears.{answers-all, answers-next}
use Rattle.door_play.proofs.stepping.keep_answers.Goals as goal

pub loop-line-preserved : goal.loop-line-preserved
loop-line-preserved c =
    let inside : c.loop-line.line-index < length c.loop-line.lines = omega arith in
    let heard = c.loop-line.heard.items in
    answers-next heard c.keep_answer.new.heard.items c.loop-line.lines c.loop-line.line-index
    c.line-item.result c.keep_answer.new.line inside c.line-item.is
    (c.in_ok-keep_answer.ensures
    ∙ ap (λ (l : Line). heard ++ answers_in (l ∷ [])) (sym c.line-item.is))
    ∙ c.loop-line.invariant

pub returns : goal.returns
returns c =
    let past : length c.loop-line.lines ≤ c.loop-line.line-index = omega arith in
    answers-all c.loop-line.heard.items c.loop-line.lines c.loop-line.line-index past
    ∙ c.loop-line.invariant
