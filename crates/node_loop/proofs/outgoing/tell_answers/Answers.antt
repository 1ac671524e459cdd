use Rattle.std.proofs.Common.{rules, ◌++◌, List, ap, sym, ◌∙◌}
use Rattle.std.specs.Prelude.{flat_map}
use Rattle.std.proofs.lemmas.Iterator.Adapters.{YieldsList-from_vec}
use Rattle.std.proofs.lemmas.Iterator.Consumers.{YieldsList-end}
use Rattle.std.proofs.lemmas.List.{flat_map_more, map-id}
use Rattle.node_outputs.specs.declared.outputs.Answered.{Answered}
use Rattle.node_loop.specs.Outgoing.{answer_sent, heard_answer, heard_by, sent_to}
use Rattle.node_loop.proofs.outgoing.tell_answers.Goals as goal

pub loop-answer-preserved : goal.loop-answer-preserved
loop-answer-preserved c =
    let x = c.in-Some.answer in
    let so_far = c.loop-answer.yielded in
    let sent = answer_sent c.args.place in
    record {
      sent = c.in_ok-tell.ensures.sent
          ∙ ap (λ h. c.loop-answer.out.items ++ sent_to c.args.place x.peer h) c.answer-said.ensures
          ∙ ap (λ ds. ds ++ sent x) c.loop-answer.invariant.sent
          ∙ flat_map_more sent c.args.out.now.items so_far x;
      heard = c.in_ok-tell.ensures.heard
          ∙ ap (λ h. c.loop-answer.heard.items ++ heard_by x.peer h) c.answer-said.ensures
          ∙ ap (λ hs. hs ++ heard_answer x) c.loop-answer.invariant.heard
          ∙ flat_map_more heard_answer c.args.heard.now.items so_far x;
    }

pub returns-clause-sent : goal.returns-clause-sent
returns-clause-sent c =
    let all = YieldsList-end (YieldsList-from_vec {s = c.into_iter-answer-iterator.result}
    c.args.answers.items (search rules) (search rules))
    c.loop-answer.yielded c.loop-answer.answer-iterator c.loop-answer.yielded_by c.next.result
    c.next.new.self c.in-None.is c.next.ensures.steps in
    c.loop-answer.invariant.sent
    ∙ ap (λ (xs : List Answered). c.args.out.now.items ++ flat_map (answer_sent c.args.place) xs)
    (sym (map-id c.loop-answer.yielded) ∙ all.0)

pub returns-clause-heard : goal.returns-clause-heard
returns-clause-heard c =
    let all = YieldsList-end (YieldsList-from_vec {s = c.into_iter-answer-iterator.result}
    c.args.answers.items (search rules) (search rules))
    c.loop-answer.yielded c.loop-answer.answer-iterator c.loop-answer.yielded_by c.next.result
    c.next.new.self c.in-None.is c.next.ensures.steps in
    c.loop-answer.invariant.heard
    ∙ ap (λ (xs : List Answered). c.args.heard.now.items ++ flat_map heard_answer xs)
    (sym (map-id c.loop-answer.yielded) ∙ all.0)
