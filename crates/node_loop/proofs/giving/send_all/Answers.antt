use Rattle.std.proofs.Common.{rules, ◌∙◌, ◌∷◌, drop, length, suc, refl, arith}
use Rattle.std.proofs.lemmas.Iterator.Adapters.{YieldsList-from_vec}
use Rattle.std.proofs.lemmas.Iterator.Consumers.{YieldsList-so_far, YieldsList-turn}
use Rattle.node_loop.proofs.Fronts.{sent-none, split-here}
use Rattle.node_loop.proofs.giving.send_all.Goals as goal

pub loop-d-init : goal.loop-d-init
loop-d-init g c = record {
  link = sent-none (g.L.Link.told c.args.link.now);
  taken = refl;
  sent = omega arith;
  count = omega arith;
}

pub returns-in-Err-clause-part : goal.returns-in-Err-clause-part
returns-in-Err-clause-part g c =
    let all = c.args.datagrams.items in
    let from = YieldsList-from_vec {s = c.into_iter-d-iterator.result} all (search rules)
    (search rules) in
    let turn = YieldsList-turn from c.loop-d.yielded c.loop-d.d-iterator c.loop-d.yielded_by
    c.next.result c.next.new.self c.in-Some.d c.in-Some.is c.next.ensures.steps in
    record {
      front = c.loop-d.yielded;
      rest = c.in-Some.d ∷ drop (suc (length c.loop-d.yielded)) all;
      parts = split-here all c.loop-d.yielded c.in-Some.d
          (YieldsList-so_far from c.loop-d.yielded c.loop-d.d-iterator c.loop-d.yielded_by)
          turn.0 turn.1;
      sent = c.in-Err.ensures.kept ∙ c.loop-d.invariant.link;
    }
