use Rattle.std.proofs.Common.{rules, ◌∙◌, ◌∷◌, arith, drop, inl, length, subst, suc, sym}
use Rattle.std.proofs.lemmas.Iterator.Adapters.{YieldsList-from_vec}
use Rattle.std.proofs.lemmas.Iterator.Consumers.{YieldsList-so_far, YieldsList-turn}
use Rattle.node_loop.specs.Chain.{Stops}
use Rattle.node_loop.specs.Cut.{IsGivenInPart, work_left}
use Rattle.node_loop.specs.Run.{IsGiven}
use Rattle.node_loop.specs.Scene.{work}
use Rattle.node_loop.proofs.Chains.{chain-push, stops-behind}
use Rattle.node_loop.proofs.Fronts.{split-here}
use Rattle.node_loop.proofs.giving.give_all.Goals as goal

pub loop-input-preserved : goal.loop-input-preserved
loop-input-preserved g c = record {
  given = chain-push (IsGiven c.args.me c.args.now) c.loop-input.yielded c.in-Some.input
      (work c.args.node.now (g.D.Store.told c.args.store.now)
      (g.L.Link.told c.args.link.now) c.args.ledger.now)
      (work c.loop-input.node (g.D.Store.told c.loop-input.store)
      (g.L.Link.told c.loop-input.link) c.loop-input.ledger)
      (work c.give.new.node (g.D.Store.told c.give.new.store)
      (g.L.Link.told c.give.new.link) c.give.new.ledger)
      c.loop-input.invariant.given c.in-Ok.ensures.given;
  up = c.in-Ok.ensures.up;
  taken = c.in-Ok.ensures.taken ∙ c.loop-input.invariant.taken;
  link_count = omega (arith, c.loop-input.invariant.link_count, c.in-Ok.ensures.link.count);
  disk_count = omega (arith, c.loop-input.invariant.disk_count, c.in-Ok.ensures.disk.count);
}

pub returns-in-Err-clause-part : goal.returns-in-Err-clause-part
returns-in-Err-clause-part g c =
    let all = c.args.inputs.items in
    let so_far = c.loop-input.yielded in
    let from = YieldsList-from_vec {s = c.into_iter-input-iterator.result} all (search rules)
    (search rules) in
    let turn = YieldsList-turn from so_far c.loop-input.input-iterator c.loop-input.yielded_by
    c.next.result c.next.new.self c.in-Some.input c.in-Some.is c.next.ensures.steps in
    let start = work c.args.node.now (g.D.Store.told c.args.store.now)
    (g.L.Link.told c.args.link.now) c.args.ledger.now in
    let here = work c.loop-input.node (g.D.Store.told c.loop-input.store)
    (g.L.Link.told c.loop-input.link) c.loop-input.ledger in
    let left = work_left (g.D.Store.told c.give.new.store) (g.L.Link.told c.give.new.link) in
    subst (λ xs. Stops (IsGiven c.args.me c.args.now) (IsGivenInPart c.args.me c.args.now) xs start
    left)
    (sym (split-here all so_far c.in-Some.input
    (YieldsList-so_far from so_far c.loop-input.input-iterator c.loop-input.yielded_by)
    turn.0 turn.1))
    (stops-behind (IsGiven c.args.me c.args.now) (IsGivenInPart c.args.me c.args.now) so_far
    (c.in-Some.input ∷ drop (suc (length so_far)) all) start here left
    c.loop-input.invariant.given (inl c.in-Err.ensures.part))

-- ---- what failed

pub returns-in-Err-clause-link : goal.returns-in-Err-clause-link
returns-in-Err-clause-link g c = record {
  rose = λ is. omega (arith, c.loop-input.invariant.link_count, c.in-Err.ensures.link.rose is);
  count = omega (arith, c.loop-input.invariant.link_count, c.in-Err.ensures.link.count);
}

pub returns-in-Err-clause-disk : goal.returns-in-Err-clause-disk
returns-in-Err-clause-disk g c = record {
  rose = λ is. omega (arith, c.loop-input.invariant.disk_count, c.in-Err.ensures.disk.rose is);
  count = omega (arith, c.loop-input.invariant.disk_count, c.in-Err.ensures.disk.count);
}

pub returns-clause-link : goal.returns-clause-link
returns-clause-link g c = record {
  rose = λ is. cc;
  count = c.loop-input.invariant.link_count;
}

pub returns-clause-disk : goal.returns-clause-disk
returns-clause-disk g c = record {
  rose = λ is. cc;
  count = c.loop-input.invariant.disk_count;
}
