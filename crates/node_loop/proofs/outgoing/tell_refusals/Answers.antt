use Rattle.std.proofs.Common.{rules, ◌++◌, List, ap, sym, ◌∙◌}
use Rattle.std.specs.Prelude.{flat_map}
use Rattle.std.proofs.lemmas.Iterator.Adapters.{YieldsList-from_vec}
use Rattle.std.proofs.lemmas.Iterator.Consumers.{YieldsList-end}
use Rattle.std.proofs.lemmas.List.{flat_map_more, map-id}
use Rattle.node_outputs.specs.declared.outputs.Refused.{Refused}
use Rattle.node_loop.specs.Outgoing.{refusal_sent, heard_refusal, heard_by, sent_to}
use Rattle.node_loop.proofs.outgoing.tell_refusals.Goals as goal

pub loop-refusal-preserved : goal.loop-refusal-preserved
loop-refusal-preserved c =
    let x = c.in-Some.refusal in
    let so_far = c.loop-refusal.yielded in
    let sent = refusal_sent c.args.place in
    record {
      sent = c.in_ok-tell.ensures.sent
          ∙ ap (λ h. c.loop-refusal.out.items ++ sent_to c.args.place x.peer h) c.refusal-said.ensures
          ∙ ap (λ ds. ds ++ sent x) c.loop-refusal.invariant.sent
          ∙ flat_map_more sent c.args.out.now.items so_far x;
      heard = c.in_ok-tell.ensures.heard
          ∙ ap (λ h. c.loop-refusal.heard.items ++ heard_by x.peer h) c.refusal-said.ensures
          ∙ ap (λ hs. hs ++ heard_refusal x) c.loop-refusal.invariant.heard
          ∙ flat_map_more heard_refusal c.args.heard.now.items so_far x;
    }

pub returns-clause-sent : goal.returns-clause-sent
returns-clause-sent c =
    let all = YieldsList-end (YieldsList-from_vec {s = c.into_iter-refusal-iterator.result}
    c.args.refusals.items (search rules) (search rules))
    c.loop-refusal.yielded c.loop-refusal.refusal-iterator c.loop-refusal.yielded_by c.next.result
    c.next.new.self c.in-None.is c.next.ensures.steps in
    c.loop-refusal.invariant.sent
    ∙ ap (λ (xs : List Refused). c.args.out.now.items ++ flat_map (refusal_sent c.args.place) xs)
    (sym (map-id c.loop-refusal.yielded) ∙ all.0)

pub returns-clause-heard : goal.returns-clause-heard
returns-clause-heard c =
    let all = YieldsList-end (YieldsList-from_vec {s = c.into_iter-refusal-iterator.result}
    c.args.refusals.items (search rules) (search rules))
    c.loop-refusal.yielded c.loop-refusal.refusal-iterator c.loop-refusal.yielded_by c.next.result
    c.next.new.self c.in-None.is c.next.ensures.steps in
    c.loop-refusal.invariant.heard
    ∙ ap (λ (xs : List Refused). c.args.heard.now.items ++ flat_map heard_refusal xs)
    (sym (map-id c.loop-refusal.yielded) ∙ all.0)
