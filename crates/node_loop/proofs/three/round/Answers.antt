use Rattle.std.proofs.Common.{arith, rules}
use Rattle.harp_types.specs.declared.server.ServerId.TheVariants.{Zero, One, Two}
use Rattle.node_loop.specs.Cut.{spot_left}
use Rattle.node_loop.specs.Scene.{each, spot}
use Rattle.node_loop.proofs.Results.{on_err, on_err-one, on_ok-one}
use Rattle.node_loop.proofs.Scenes.{are-up, none-fell, round-first, round-second, round-third, round-turns}
use Rattle.node_loop.proofs.three.round.Goals as goal

pub turn-requires : goal.turn-requires
turn-requires g c = c.requires Zero

pub turn-requires-2 : goal.turn-requires-2
turn-requires-2 g c = c.requires One

pub turn-requires-3 : goal.turn-requires-3
turn-requires-3 g c = c.requires Two

pub returns-in_err-turn-clause-part : goal.returns-in_err-turn-clause-part
returns-in_err-turn-clause-part g c =
    let r = c.args.servers.now in
    let d = each g.D.Store.told c.args.stores.now in
    let s = spot r.zero d.zero (g.L.Link.told c.args.link.now) (g.C.Clock.told c.args.clock.now)
    c.args.ledger.now in
    on_err c.from_residual.result
    (round-first r d s (spot_left (g.D.Store.told c.turn.new.store)
    (g.L.Link.told c.turn.new.link) (g.C.Clock.told c.turn.new.clock)) c.in_err-turn.ensures.part)

pub returns-in_err-turn-clause-disk_count : goal.returns-in_err-turn-clause-disk_count
returns-in_err-turn-clause-disk_count g c =
    let old = each g.D.Store.faults c.args.stores.now in
    none-fell old
    (record { zero = g.D.Store.faults c.turn.new.store; one = old.one; two = old.two })
    c.turn.ensures.disk_count (omega arith) (omega arith)

pub returns-in_err-turn-2-clause-disk_count : goal.returns-in_err-turn-2-clause-disk_count
returns-in_err-turn-2-clause-disk_count g c =
    let old = each g.D.Store.faults c.args.stores.now in
    none-fell old (record {
      zero = g.D.Store.faults c.turn.new.store;
      one = g.D.Store.faults c.turn-2.new.store;
      two = old.two;
    })
    c.turn.ensures.disk_count c.turn-2.ensures.disk_count (omega arith)

pub returns-clause-disk_count : goal.returns-clause-disk_count
returns-clause-disk_count g c =
    none-fell (each g.D.Store.faults c.args.stores.now) (each g.D.Store.faults
    (record { zero = c.turn.new.store; one = c.turn-2.new.store; two = c.turn-3.new.store }))
    c.turn.ensures.disk_count c.turn-2.ensures.disk_count c.turn-3.ensures.disk_count

pub returns-clause-up : goal.returns-clause-up
returns-clause-up g c = on_ok-one c.turn-3.result (λ up. are-up
    (record {
      zero = c.turn.new.running;
      one = c.turn-2.new.running;
      two = c.turn-3.new.running;
    })
    (each g.D.Store.told
    (record { zero = c.turn.new.store; one = c.turn-2.new.store; two = c.turn-3.new.store }))
    c.in_ok-turn.ensures.up c.in_ok-turn-2.ensures.up up) c.turn-3.ensures.up

pub returns-in_err-turn-2-clause-part : goal.returns-in_err-turn-2-clause-part
returns-in_err-turn-2-clause-part g c =
    let r = c.args.servers.now in
    let d = each g.D.Store.told c.args.stores.now in
    let s = spot r.zero d.zero (g.L.Link.told c.args.link.now) (g.C.Clock.told c.args.clock.now)
    c.args.ledger.now in
    let t = spot c.turn.new.running (g.D.Store.told c.turn.new.store)
    (g.L.Link.told c.turn.new.link) (g.C.Clock.told c.turn.new.clock) c.turn.new.ledger in
    on_err c.from_residual-in_err-turn-2.result
    (round-second r d s t (spot_left (g.D.Store.told c.turn-2.new.store)
    (g.L.Link.told c.turn-2.new.link) (g.C.Clock.told c.turn-2.new.clock))
    c.in_ok-turn.ensures.turns c.in_err-turn-2.ensures.part)

pub returns-in_err-turn-2-clause-disk_rose : goal.returns-in_err-turn-2-clause-disk_rose
returns-in_err-turn-2-clause-disk_rose g c = λ is. (One, search (rules, is))

pub returns-clause-turns : goal.returns-clause-turns
returns-clause-turns g c =
    let r = c.args.servers.now in
    let d = each g.D.Store.told c.args.stores.now in
    let s = spot r.zero d.zero (g.L.Link.told c.args.link.now) (g.C.Clock.told c.args.clock.now)
    c.args.ledger.now in
    let t = spot c.turn.new.running (g.D.Store.told c.turn.new.store)
    (g.L.Link.told c.turn.new.link) (g.C.Clock.told c.turn.new.clock) c.turn.new.ledger in
    let u = spot c.turn-2.new.running (g.D.Store.told c.turn-2.new.store)
    (g.L.Link.told c.turn-2.new.link) (g.C.Clock.told c.turn-2.new.clock) c.turn-2.new.ledger in
    let v = spot c.turn-3.new.running (g.D.Store.told c.turn-3.new.store)
    (g.L.Link.told c.turn-3.new.link) (g.C.Clock.told c.turn-3.new.clock) c.turn-3.new.ledger in
    on_ok-one c.turn-3.result
    (round-turns r d s t u v c.in_ok-turn.ensures.turns c.in_ok-turn-2.ensures.turns)
    c.turn-3.ensures.turns

pub returns-clause-part : goal.returns-clause-part
returns-clause-part g c =
    let r = c.args.servers.now in
    let d = each g.D.Store.told c.args.stores.now in
    let s = spot r.zero d.zero (g.L.Link.told c.args.link.now) (g.C.Clock.told c.args.clock.now)
    c.args.ledger.now in
    let t = spot c.turn.new.running (g.D.Store.told c.turn.new.store)
    (g.L.Link.told c.turn.new.link) (g.C.Clock.told c.turn.new.clock) c.turn.new.ledger in
    let u = spot c.turn-2.new.running (g.D.Store.told c.turn-2.new.store)
    (g.L.Link.told c.turn-2.new.link) (g.C.Clock.told c.turn-2.new.clock) c.turn-2.new.ledger in
    on_err-one c.turn-3.result
    (round-third r d s t u (spot_left (g.D.Store.told c.turn-3.new.store)
    (g.L.Link.told c.turn-3.new.link) (g.C.Clock.told c.turn-3.new.clock))
    c.in_ok-turn.ensures.turns c.in_ok-turn-2.ensures.turns) c.turn-3.ensures.part

pub returns-clause-disk_rose : goal.returns-clause-disk_rose
returns-clause-disk_rose g c = λ is. (Two, c.turn-3.ensures.disk_rose is)
