use Rattle.std.proofs.Common.{arith}
use Rattle.harp_types.specs.declared.server.ServerId.TheVariants.{Zero, One, Two}
use Rattle.node_loop.specs.Cut.{spot_left}
use Rattle.node_loop.specs.Scene.{each, spot}
use Rattle.node_loop.proofs.Results.{on_err-one, on_ok-one}
use Rattle.node_loop.proofs.Scenes.{are-up, gives-in, gives-part, none-fell}
use Rattle.node_loop.proofs.three.give_at.Goals as goal

pub give_now-requires : goal.give_now-requires
give_now-requires g c = c.requires Zero

pub returns-in-Zero-clause-given : goal.returns-in-Zero-clause-given
returns-in-Zero-clause-given g c =
    let r = c.args.servers.now in
    let d = each g.D.Store.told c.args.stores.now in
    let s = spot r.zero d.zero (g.L.Link.told c.args.link.now) (g.C.Clock.told c.args.clock.now)
    c.args.ledger.now in
    let t = spot c.give_now.new.running (g.D.Store.told c.give_now.new.store)
    (g.L.Link.told c.give_now.new.link) (g.C.Clock.told c.give_now.new.clock)
    c.give_now.new.ledger in
    on_ok-one c.give_now.result
    (gives-in Zero c.args.place c.in-Zero.is c.args.input r d s t) c.give_now.ensures.given

pub returns-in-Zero-clause-part : goal.returns-in-Zero-clause-part
returns-in-Zero-clause-part g c =
    let r = c.args.servers.now in
    let d = each g.D.Store.told c.args.stores.now in
    let s = spot r.zero d.zero (g.L.Link.told c.args.link.now) (g.C.Clock.told c.args.clock.now)
    c.args.ledger.now in
    on_err-one c.give_now.result
    (gives-part Zero c.args.place c.in-Zero.is c.args.input r d s
    (spot_left (g.D.Store.told c.give_now.new.store) (g.L.Link.told c.give_now.new.link)
    (g.C.Clock.told c.give_now.new.clock)))
    c.give_now.ensures.part

pub returns-in-Zero-clause-up : goal.returns-in-Zero-clause-up
returns-in-Zero-clause-up g c =
    let r = c.args.servers.now in
    let d = each g.D.Store.told c.args.stores.now in
    on_ok-one c.give_now.result (λ up. are-up
    (record { zero = c.give_now.new.running; one = r.one; two = r.two })
    (record { zero = g.D.Store.told c.give_now.new.store; one = d.one; two = d.two })
    up (c.requires One) (c.requires Two)) c.give_now.ensures.up

pub returns-in-Zero-clause-disk_rose : goal.returns-in-Zero-clause-disk_rose
returns-in-Zero-clause-disk_rose g c = λ is. (Zero, c.give_now.ensures.disk_rose is)

pub returns-in-Zero-clause-disk_count : goal.returns-in-Zero-clause-disk_count
returns-in-Zero-clause-disk_count g c =
    let old = each g.D.Store.faults c.args.stores.now in
    none-fell old (record {
      zero = g.D.Store.faults c.give_now.new.store;
      one = old.one;
      two = old.two;
    })
    c.give_now.ensures.disk_count (omega arith) (omega arith)

pub give_now-requires-in-One : goal.give_now-requires-in-One
give_now-requires-in-One g c = c.requires One

pub returns-in-One-clause-given : goal.returns-in-One-clause-given
returns-in-One-clause-given g c =
    let r = c.args.servers.now in
    let d = each g.D.Store.told c.args.stores.now in
    let s = spot r.one d.one (g.L.Link.told c.args.link.now) (g.C.Clock.told c.args.clock.now)
    c.args.ledger.now in
    let t = spot c.give_now-in-One.new.running (g.D.Store.told c.give_now-in-One.new.store)
    (g.L.Link.told c.give_now-in-One.new.link) (g.C.Clock.told c.give_now-in-One.new.clock)
    c.give_now-in-One.new.ledger in
    on_ok-one c.give_now-in-One.result
    (gives-in One c.args.place c.in-One.is c.args.input r d s t) c.give_now-in-One.ensures.given

pub returns-in-One-clause-part : goal.returns-in-One-clause-part
returns-in-One-clause-part g c =
    let r = c.args.servers.now in
    let d = each g.D.Store.told c.args.stores.now in
    let s = spot r.one d.one (g.L.Link.told c.args.link.now) (g.C.Clock.told c.args.clock.now)
    c.args.ledger.now in
    on_err-one c.give_now-in-One.result
    (gives-part One c.args.place c.in-One.is c.args.input r d s
    (spot_left (g.D.Store.told c.give_now-in-One.new.store) (g.L.Link.told c.give_now-in-One.new.link)
    (g.C.Clock.told c.give_now-in-One.new.clock)))
    c.give_now-in-One.ensures.part

pub returns-in-One-clause-up : goal.returns-in-One-clause-up
returns-in-One-clause-up g c =
    let r = c.args.servers.now in
    let d = each g.D.Store.told c.args.stores.now in
    on_ok-one c.give_now-in-One.result (λ up. are-up
    (record { zero = r.zero; one = c.give_now-in-One.new.running; two = r.two })
    (record { zero = d.zero; one = g.D.Store.told c.give_now-in-One.new.store; two = d.two })
    (c.requires Zero) up (c.requires Two)) c.give_now-in-One.ensures.up

pub returns-in-One-clause-disk_rose : goal.returns-in-One-clause-disk_rose
returns-in-One-clause-disk_rose g c = λ is. (One, c.give_now-in-One.ensures.disk_rose is)

pub returns-in-One-clause-disk_count : goal.returns-in-One-clause-disk_count
returns-in-One-clause-disk_count g c =
    let old = each g.D.Store.faults c.args.stores.now in
    none-fell old (record {
      zero = old.zero;
      one = g.D.Store.faults c.give_now-in-One.new.store;
      two = old.two;
    })
    (omega arith) c.give_now-in-One.ensures.disk_count (omega arith)

pub give_now-requires-in-Two : goal.give_now-requires-in-Two
give_now-requires-in-Two g c = c.requires Two

pub returns-in-Two-clause-given : goal.returns-in-Two-clause-given
returns-in-Two-clause-given g c =
    let r = c.args.servers.now in
    let d = each g.D.Store.told c.args.stores.now in
    let s = spot r.two d.two (g.L.Link.told c.args.link.now) (g.C.Clock.told c.args.clock.now)
    c.args.ledger.now in
    let t = spot c.give_now-in-Two.new.running (g.D.Store.told c.give_now-in-Two.new.store)
    (g.L.Link.told c.give_now-in-Two.new.link) (g.C.Clock.told c.give_now-in-Two.new.clock)
    c.give_now-in-Two.new.ledger in
    on_ok-one c.give_now-in-Two.result
    (gives-in Two c.args.place c.in-Two.is c.args.input r d s t) c.give_now-in-Two.ensures.given

pub returns-in-Two-clause-part : goal.returns-in-Two-clause-part
returns-in-Two-clause-part g c =
    let r = c.args.servers.now in
    let d = each g.D.Store.told c.args.stores.now in
    let s = spot r.two d.two (g.L.Link.told c.args.link.now) (g.C.Clock.told c.args.clock.now)
    c.args.ledger.now in
    on_err-one c.give_now-in-Two.result
    (gives-part Two c.args.place c.in-Two.is c.args.input r d s
    (spot_left (g.D.Store.told c.give_now-in-Two.new.store) (g.L.Link.told c.give_now-in-Two.new.link)
    (g.C.Clock.told c.give_now-in-Two.new.clock)))
    c.give_now-in-Two.ensures.part

pub returns-in-Two-clause-up : goal.returns-in-Two-clause-up
returns-in-Two-clause-up g c =
    let r = c.args.servers.now in
    let d = each g.D.Store.told c.args.stores.now in
    on_ok-one c.give_now-in-Two.result (λ up. are-up
    (record { zero = r.zero; one = r.one; two = c.give_now-in-Two.new.running })
    (record { zero = d.zero; one = d.one; two = g.D.Store.told c.give_now-in-Two.new.store })
    (c.requires Zero) (c.requires One) up) c.give_now-in-Two.ensures.up

pub returns-in-Two-clause-disk_rose : goal.returns-in-Two-clause-disk_rose
returns-in-Two-clause-disk_rose g c = λ is. (Two, c.give_now-in-Two.ensures.disk_rose is)

pub returns-in-Two-clause-disk_count : goal.returns-in-Two-clause-disk_count
returns-in-Two-clause-disk_count g c =
    let old = each g.D.Store.faults c.args.stores.now in
    none-fell old (record {
      zero = old.zero;
      one = old.one;
      two = g.D.Store.faults c.give_now-in-Two.new.store;
    })
    (omega arith) (omega arith) c.give_now-in-Two.ensures.disk_count
