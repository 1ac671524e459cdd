use Rattle.std.proofs.Common.{rules, ◌++◌, List, ap, refl, sym, ◌∙◌}
use Rattle.std.proofs.lemmas.Iterator.Consumers.{YieldsList-end}
use Rattle.std.proofs.lemmas.List.{map-id}
use Rattle.node_outputs.specs.declared.outputs.Answered.{Answered}
use Rattle.world_lines.specs.Given.{answered_lines}
use Rattle.world_lines.proofs.Loops.{begun, drained, grown, whole_range}
use Rattle.world_lines.proofs.Made.{answer_lines_made, makes_answer_lines, uncounted}
use Rattle.world_lines.proofs.given.show_answers.Goals as goal

pub loop-answer-init : goal.loop-answer-init
loop-answer-init c = begun (makes_answer_lines c.args.server) (answer_lines_made c.args.server)
    c.args.lines.now.items 0

pub loop-answer-preserved : goal.loop-answer-preserved
loop-answer-preserved c =
    let m = makes_answer_lines c.args.server in
    c.in_ok-show_answer.ensures
    ∙ grown m (answer_lines_made c.args.server) c.args.lines.now.items c.loop-answer.lines.items
    0 0 c.loop-answer.yielded c.in-Some.answer c.loop-answer.invariant
    (sym (uncounted m (λ n x. refl) 0 c.loop-answer.yielded))

pub returns-clause-lines : goal.returns-clause-lines
returns-clause-lines c =
    let l = c.loop-answer in
    let all = YieldsList-end (drained {s = c.into_iter-answer-iterator.result}
    c.args.answers.now.items (search (rules, whole_range)))
    l.yielded l.answer-iterator l.yielded_by c.next.result
    c.next.new.self c.in-None.is c.next.ensures.steps in
    l.invariant ∙ ap (λ (xs : List Answered). c.args.lines.now.items
    ++ answered_lines c.args.server xs) (sym (map-id l.yielded) ∙ all.0)
