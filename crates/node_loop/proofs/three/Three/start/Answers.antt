use Rattle.std.proofs.Common.{ap, inl, inr, subst}
use Rattle.std.specs.Prelude.{IfOk, OnErr}
use Rattle.node_loop.specs.Chain.{Chain, Stops}
use Rattle.node_loop.specs.Cut.{BootsAtInPart}
use Rattle.node_loop.specs.Run.{BootsAt}
use Rattle.node_loop.specs.Scene.{all_places, around, each, scene_of, start}
use Rattle.node_loop.specs.declared.three.Three.{Three}
use Rattle.node_loop.proofs.Results.{on_err, on_err-one}
use Rattle.node_loop.proofs.three.Three.start.Goals as goal

pub returns-clause-boots : goal.returns-clause-boots
returns-clause-boots g c =
    let old = each g.D.Store.told c.args.stores.now in
    let new = each g.D.Store.told c.boot_all.new.stores in
    let link = g.L.Link.told c.open_all.new.link in
    subst (λ l. IfOk c.boot_all.result (λ (three : Three). Chain (BootsAt c.args.delta) all_places
    (start old l (g.C.Clock.told c.args.clock.now))
    (scene_of three new link (g.C.Clock.told c.boot_all.new.clock))))
    c.open_all.ensures.kept (c.boot_all.ensures.boots link)

pub returns-in_err-open_all-clause-part : goal.returns-in_err-open_all-clause-part
returns-in_err-open_all-clause-part g c =
    let disks = each g.D.Store.told c.args.stores.now in
    let clock = g.C.Clock.told c.args.clock.now in
    on_err c.from_residual.result (inl (ap (λ l. around disks l clock) c.open_all.ensures.kept))

pub returns-clause-part : goal.returns-clause-part
returns-clause-part g c =
    let delta = c.args.delta in
    let old = each g.D.Store.told c.args.stores.now in
    let new = each g.D.Store.told c.boot_all.new.stores in
    let link = g.L.Link.told c.open_all.new.link in
    on_err-one c.boot_all.result (λ part. inr part)
    (subst (λ l. OnErr c.boot_all.result (Stops (BootsAt delta) (BootsAtInPart delta) all_places
    (start old l (g.C.Clock.told c.args.clock.now))
    (around new link (g.C.Clock.told c.boot_all.new.clock))))
    c.open_all.ensures.kept (c.boot_all.ensures.part link))
