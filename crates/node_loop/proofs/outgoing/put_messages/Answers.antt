use Rattle.std.proofs.Common.{rules, [], ◌∷◌, ◌++◌, All, List, append_assoc, map, subst, sym, ap, ◌∙◌}
use Rattle.std.proofs.lemmas.Iterator.Adapters.{YieldsList-from_vec}
use Rattle.std.proofs.lemmas.Iterator.Consumers.{YieldsList-end}
use Rattle.std.proofs.lemmas.List.{map-append, map-id}
use Rattle.std.proofs.lemmas.List.Elements.{All-push}
use Rattle.node_outputs.specs.declared.outputs.Sent.{Sent}
use Rattle.wire.specs.Messages.{MessageFits}
use Rattle.node_loop.specs.Outgoing.{message_sent}
use Rattle.node_loop.proofs.outgoing.put_messages.Goals as goal

pub loop-sent-preserved : goal.loop-sent-preserved
loop-sent-preserved c =
    let x = c.in-Some.sent in
    let so_far = c.loop-sent.yielded in
    let made = message_sent c.args.place in
    let before = c.args.out.now.items in
    record {
      sent = c.in_ok-put.ensures.out ∙ ap (λ ds. ds ++ made x ∷ []) c.loop-sent.invariant.sent
          ∙ append_assoc before (map made so_far) (made x ∷ [])
          ∙ ap (λ ds. before ++ ds) (sym (map-append made so_far (x ∷ [])));
      fit = All-push (λ (s : Sent). MessageFits s.message) so_far x c.loop-sent.invariant.fit
          c.in_ok-put.ensures.fits;
    }

pub returns : goal.returns
returns c =
    let all = YieldsList-end (YieldsList-from_vec {s = c.into_iter-sent-iterator.result}
    c.args.sends.items (search rules) (search rules))
    c.loop-sent.yielded c.loop-sent.sent-iterator c.loop-sent.yielded_by c.next.result
    c.next.new.self c.in-None.is c.next.ensures.steps in
    let same = sym (map-id c.loop-sent.yielded) ∙ all.0 in
    record {
      sent = c.loop-sent.invariant.sent
          ∙ ap (λ (xs : List Sent). c.args.out.now.items ++ map (message_sent c.args.place) xs)
          same;
      fit = subst (λ (xs : List Sent). All (λ s. MessageFits s.message) xs) same
          c.loop-sent.invariant.fit;
    }
