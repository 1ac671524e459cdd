use Rattle.std.proofs.Common.{◌≡◌, ◌+◌, ◌-◌, ◌++◌, arith, refl, subst, sym}
use Rattle.node_loop.specs.Chain.{Chain, Stops}
use Rattle.node_loop.specs.Cut.{TurnsAtInPart}
use Rattle.node_loop.specs.Run.{TakesTurns, TurnsAt, rounds}
use Rattle.node_loop.specs.Scene.{all_places, around, each, scene_of, with_heard}
use Rattle.node_loop.proofs.Chains.{chain-append, stops-behind}
use Rattle.node_loop.proofs.HeardLaws.{stops-say, turns-say}
use Rattle.node_loop.proofs.Scenes.{rounds-more, stops-sooner}
use Rattle.node_loop.proofs.three.Three.take_turns.Goals as goal

pub loop-init : goal.loop-init
loop-init g c = record {
  turned = (c.args.self.now.ledger.heard.items, refl);
  up = c.requires;
  link_count = omega arith;
  disk_count = λ place. omega arith;
}

pub loop-preserved : goal.loop-preserved
loop-preserved g c =
    let before = scene_of c.args.self.now
    (each g.D.Store.told c.args.stores.now) (g.L.Link.told c.args.link.now)
    (g.C.Clock.told c.args.clock.now) in
    let here = scene_of c.loop.self (each g.D.Store.told c.loop.stores)
    (g.L.Link.told c.loop.link) (g.C.Clock.told c.loop.clock) in
    let next = scene_of c.turn.new.self (each g.D.Store.told c.turn.new.stores)
    (g.L.Link.told c.turn.new.link) (g.C.Clock.told c.turn.new.clock) in
    let so_far = c.loop.invariant.turned in
    let turn = turns-say all_places here next c.in-Ok.ensures.turns in
    let hs = so_far.0 ++ turn.said in
    record {
      turned = (
        hs,
        subst (λ xs. Chain TurnsAt xs before (with_heard hs next))
            (sym (rounds-more c.loop.counter all_places))
            (chain-append TurnsAt (rounds c.loop.counter all_places) all_places before
            (with_heard so_far.0 here) (with_heard hs next) so_far.1 (turn.leads so_far.0)),
      );
      up = c.in-Ok.ensures.up;
      link_count = omega (arith, c.loop.invariant.link_count, c.in-Ok.ensures.link_count);
      disk_count = λ place. omega (
        arith,
        c.loop.invariant.disk_count place,
        c.in-Ok.ensures.disk_count place,
      );
    }

pub returns-in-Err-clause-part : goal.returns-in-Err-clause-part
returns-in-Err-clause-part g c =
    let before = scene_of c.args.self.now
    (each g.D.Store.told c.args.stores.now) (g.L.Link.told c.args.link.now)
    (g.C.Clock.told c.args.clock.now) in
    let here = scene_of c.loop.self (each g.D.Store.told c.loop.stores)
    (g.L.Link.told c.loop.link) (g.C.Clock.told c.loop.clock) in
    let left = around (each g.D.Store.told c.turn.new.stores) (g.L.Link.told c.turn.new.link)
    (g.C.Clock.told c.turn.new.clock) in
    let n = c.loop.counter in
    let so_far = c.loop.invariant.turned in
    stops-sooner TurnsAt TurnsAtInPart all_places before left (c.args.turns - (n + 1)) (n + 1)
    c.args.turns (omega arith)
    (subst (λ xs. Stops TurnsAt TurnsAtInPart xs before left) (sym (rounds-more n all_places))
    (stops-behind TurnsAt TurnsAtInPart (rounds n all_places) all_places before
    (with_heard so_far.0 here) left so_far.1
    (stops-say all_places here left c.in-Err.ensures.part so_far.0)))

pub returns-in-Err-clause-link_count : goal.returns-in-Err-clause-link_count
returns-in-Err-clause-link_count g c =
    omega (arith, c.loop.invariant.link_count, c.in-Err.ensures.link_count)

pub returns-in-Err-clause-disk_count : goal.returns-in-Err-clause-disk_count
returns-in-Err-clause-disk_count g c = λ place. omega (
  arith,
  c.loop.invariant.disk_count place,
  c.in-Err.ensures.disk_count place,
)

pub returns-clause-turns : goal.returns-clause-turns
returns-clause-turns g c =
    let all : c.loop.counter ≡ c.args.turns = omega arith in
    subst (λ n. TakesTurns n
    (scene_of c.args.self.now (each g.D.Store.told c.args.stores.now)
    (g.L.Link.told c.args.link.now) (g.C.Clock.told c.args.clock.now))
    (scene_of c.loop.self (each g.D.Store.told c.loop.stores) (g.L.Link.told c.loop.link)
    (g.C.Clock.told c.loop.clock))) all c.loop.invariant.turned

pub returns-clause-link_count : goal.returns-clause-link_count
returns-clause-link_count g c = c.loop.invariant.link_count

pub returns-clause-disk_count : goal.returns-clause-disk_count
returns-clause-disk_count g c = c.loop.invariant.disk_count
