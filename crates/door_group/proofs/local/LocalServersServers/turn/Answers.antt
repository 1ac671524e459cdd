use Rattle.std.proofs.Common.{◌≡◌, Err, ap}
use Rattle.node_loop.specs.Scene.{each, scene_of}
use Rattle.door_group.specs.Local.{of_loop}
use Rattle.door_group.proofs.Faults.{all_grow, fails}
use Rattle.door_group.proofs.Moves.{turned}
use Rattle.door_group.specs.declared.servers.ServersFault.TheVariants.{Failed}
use Rattle.door_group.proofs.local.LocalServersServers.turn.Goals as goal

pub returns-in-Ok-clause-turns : goal.returns-in-Ok-clause-turns
returns-in-Ok-clause-turns g c w is =
    let s = c.args.self.now in
    let old = scene_of s.three.now (each g.D.Store.told s.disks.now) (g.L.Link.told s.link.now)
    (g.C.Clock.told s.clock.now) in
    let new = scene_of c.turn.new.self (each g.D.Store.told c.turn.new.stores)
    (g.L.Link.told c.turn.new.link) (g.C.Clock.told c.turn.new.clock) in
    turned old new w is c.in-Ok.ensures.turns

pub returns-in-Ok-clause-count : goal.returns-in-Ok-clause-count
returns-in-Ok-clause-count g c =
    let s = c.args.self.now in
    all_grow (g.L.Link.faults s.link.now) (g.L.Link.faults c.turn.new.link)
    (each g.D.Store.faults s.disks.now) (each g.D.Store.faults c.turn.new.stores)
    c.in-Ok.ensures.link_count c.in-Ok.ensures.disk_count

pub returns-in-Err-clause-failed : goal.returns-in-Err-clause-failed
returns-in-Err-clause-failed g c e =
    let s = c.args.self.now in
    let is : of_loop c.in-Err.fault ≡ Failed = cc (e, c.end.ensures.fault) in
    rw c.end.ensures.kept (fails (g.L.Link.faults s.link.now) (g.L.Link.faults c.turn.new.link)
    (each g.D.Store.faults s.disks.now) (each g.D.Store.faults c.turn.new.stores)
    c.in-Err.ensures.link_count c.in-Err.ensures.disk_count c.in-Err.fault
    (λ is. c.in-Err.ensures.link_rose (ap Err is)) (λ is. c.in-Err.ensures.disk_rose (ap Err is))
    is)

pub returns-in-Err-clause-count : goal.returns-in-Err-clause-count
returns-in-Err-clause-count g c =
    let s = c.args.self.now in
    all_grow (g.L.Link.faults s.link.now) (g.L.Link.faults c.turn.new.link)
    (each g.D.Store.faults s.disks.now) (each g.D.Store.faults c.turn.new.stores)
    c.in-Err.ensures.link_count c.in-Err.ensures.disk_count

pub returns-in-Err-clause-broken : goal.returns-in-Err-clause-broken
returns-in-Err-clause-broken g c w is =
    rw is (c.args.self.now.three.now.ledger.heard.items, c.in-Err.ensures.part)
