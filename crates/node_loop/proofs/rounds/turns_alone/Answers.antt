use Rattle.std.proofs.Common.{◌+◌, ◌-◌, ◌∷◌, [], arith, inl, subst, sym}
use Rattle.node_loop.specs.Chain.{Chain, Stops}
use Rattle.node_loop.specs.Cut.{TurnsAtInPart, spot_left}
use Rattle.node_loop.specs.Run.{TurnsAt, rounds}
use Rattle.node_loop.specs.Scene.{alone, around, only, spot}
use Rattle.node_loop.proofs.Chains.{chain-push, stops-behind}
use Rattle.node_loop.proofs.Scenes.{part-alone, rounds-more, stops-sooner, turns-alone}
use Rattle.node_loop.proofs.rounds.turns_alone.Goals as goal

pub loop-preserved : goal.loop-preserved
loop-preserved g c =
    let me = c.args.me in
    let before = spot c.args.running.now (g.D.Store.told c.args.store.now)
    (g.L.Link.told c.args.link.now) (g.C.Clock.told c.args.clock.now) c.args.ledger.now in
    let here = spot c.loop.running (g.D.Store.told c.loop.store)
    (g.L.Link.told c.loop.link) (g.C.Clock.told c.loop.clock) c.loop.ledger in
    let next = spot c.turn.new.running (g.D.Store.told c.turn.new.store)
    (g.L.Link.told c.turn.new.link) (g.C.Clock.told c.turn.new.clock) c.turn.new.ledger in
    record {
      turned = subst (λ xs. Chain TurnsAt xs (alone me before) (alone me next))
          (sym (rounds-more c.loop.counter (me ∷ [])))
          (chain-push TurnsAt (rounds c.loop.counter (me ∷ [])) me (alone me before)
          (alone me here) (alone me next) c.loop.invariant.turned
          (turns-alone me here next c.in-Ok.ensures.turns));
      up = c.in-Ok.ensures.up;
      link_count = omega (arith, c.loop.invariant.link_count, c.in-Ok.ensures.link_count);
      disk_count = omega (arith, c.loop.invariant.disk_count, c.in-Ok.ensures.disk_count);
    }

pub returns-in-Err-clause-part : goal.returns-in-Err-clause-part
returns-in-Err-clause-part g c =
    let me = c.args.me in
    let before = spot c.args.running.now (g.D.Store.told c.args.store.now)
    (g.L.Link.told c.args.link.now) (g.C.Clock.told c.args.clock.now) c.args.ledger.now in
    let here = spot c.loop.running (g.D.Store.told c.loop.store)
    (g.L.Link.told c.loop.link) (g.C.Clock.told c.loop.clock) c.loop.ledger in
    let at = spot_left (g.D.Store.told c.turn.new.store) (g.L.Link.told c.turn.new.link)
    (g.C.Clock.told c.turn.new.clock) in
    let left = around (only me at.disk) at.link at.clock in
    let n = c.loop.counter in
    stops-sooner TurnsAt TurnsAtInPart (me ∷ []) (alone me before) left (c.args.turns - (n + 1)) (n + 1)
    c.args.turns (omega arith)
    (subst (λ xs. Stops TurnsAt TurnsAtInPart xs (alone me before) left)
    (sym (rounds-more n (me ∷ [])))
    (stops-behind TurnsAt TurnsAtInPart (rounds n (me ∷ [])) (me ∷ []) (alone me before)
    (alone me here) left c.loop.invariant.turned
    (inl (part-alone me here at c.in-Err.ensures.part))))
