use Rattle.std.proofs.Common.{subst}
use Rattle.std.specs.Prelude.{OnOk, OnErr}
use Rattle.harp_types.specs.declared.peer.Peer.TheVariants.{Local}
use Rattle.node.specs.declared.input.Input.TheVariants.{Ask}
use Rattle.node_loop.specs.Cut.{GivesAtInPart}
use Rattle.node_loop.specs.Run.{GivesAt}
use Rattle.node_loop.specs.Scene.{around, each, scene, spot}
use Rattle.node_loop.proofs.Results.{on_err}
use Rattle.node_loop.proofs.Scenes.{gives-none}
use Rattle.node_loop.proofs.three.Three.ask.Goals as goal

pub returns-in_err-call-clause-part : goal.returns-in_err-call-clause-part
returns-in_err-call-clause-part g c =
    let r = c.args.self.now.servers in
    let d = each g.D.Store.told c.args.stores.now in
    let link = g.L.Link.told c.args.link.now in
    let s = spot r.zero d.zero link (g.C.Clock.told c.args.clock.now) c.args.self.now.ledger in
    on_err c.from_residual.result
    (gives-none c.args.place
    (Ask Local c.args.client c.args.number c.args.cred c.args.call.now) r d s)

pub returns-clause-asks : goal.returns-clause-asks
returns-clause-asks g c =
    let old = scene c.args.self.now.servers (each g.D.Store.told c.args.stores.now)
    (g.L.Link.told c.args.link.now) (g.C.Clock.told c.args.clock.now) c.args.self.now.ledger in
    let new = scene c.give_at.new.servers (each g.D.Store.told c.give_at.new.stores)
    (g.L.Link.told c.give_at.new.link) (g.C.Clock.told c.give_at.new.clock)
    c.give_at.new.ledger in
    subst (λ x. OnOk c.give_at.result (GivesAt c.args.place
    (Ask Local c.args.client c.args.number c.args.cred x) old new))
    c.in_ok-call.ensures c.give_at.ensures.given

pub returns-clause-part : goal.returns-clause-part
returns-clause-part g c =
    let old = scene c.args.self.now.servers (each g.D.Store.told c.args.stores.now)
    (g.L.Link.told c.args.link.now) (g.C.Clock.told c.args.clock.now) c.args.self.now.ledger in
    subst (λ x. OnErr c.give_at.result (GivesAtInPart c.args.place
    (Ask Local c.args.client c.args.number c.args.cred x) old
    (around (each g.D.Store.told c.give_at.new.stores) (g.L.Link.told c.give_at.new.link)
    (g.C.Clock.told c.give_at.new.clock))))
    c.in_ok-call.ensures c.give_at.ensures.part
