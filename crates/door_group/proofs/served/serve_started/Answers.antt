use Rattle.std.proofs.Common.{◌∙◌, Err, ap, refl, subst, sym}
use Rattle.node_loop.specs.Scene.{each, scene_of, start}
use Rattle.door_group.specs.Local.{HasFailed}
use Rattle.door_group.proofs.Ends.{has_served, is_served}
use Rattle.door_group.proofs.served.serve_started.Goals as goal

pub returns-in-Ok-clause-ends : goal.returns-in-Ok-clause-ends
returns-in-Ok-clause-ends g c input left =
    let a = c.new-asker.result in
    let is = c.new-asker.ensures in
    let e = c.serve_lent.new.asker.servers in
    has_served c.args.caller input (g.S.Source.left c.serve_lent.new.source)
    (g.K.Sink.written c.args.sink.now) (g.K.Sink.written c.serve_lent.new.sink)
    (scene_of c.args.three.now (each g.D.Store.told c.args.disks.now)
    (g.L.Link.told c.args.link.now) (g.C.Clock.told c.args.clock.now)) _
    a.client a.turns a.next c.now.result a.place
    (scene_of a.servers.three.now (each g.D.Store.told a.servers.disks.now)
    (g.L.Link.told a.servers.link.now) (g.C.Clock.told a.servers.clock.now))
    (start (each g.D.Store.told e.disks.now) (g.L.Link.told e.link.now)
    (g.C.Clock.told e.clock.now)) _ (ap (λ x. x.client) is) (ap (λ x. x.turns) is)
    (ap (λ x. x.next) is ∙ c.first_number-first.ensures) (ap (λ x. x.place) is)
    (rw (
      is,
      c.new-servers.ensures.three.1,
      c.new-servers.ensures.disks.1,
      c.new-servers.ensures.link.1,
    ) refl)
    (rw (is, c.new-servers.ensures.clock.1) c.now.ensures.told)
    (rw (
      c.in-Ok.disks-1-own.given.1 (sym (c.serve_lent.ensures.lent.2
          ∙ ap (λ x. x.servers.disks.ghost_name) is ∙ c.new-servers.ensures.disks.0)),
      c.in-Ok.link-1-own.given.1 (sym (c.serve_lent.ensures.lent.1
          ∙ ap (λ x. x.servers.link.ghost_name) is ∙ c.new-servers.ensures.link.0)),
      c.in-Ok.clock-1-own.given.1 (sym (c.serve_lent.ensures.lent.3
          ∙ ap (λ x. x.servers.clock.ghost_name) is ∙ c.new-servers.ensures.clock.0)),
    ) refl)
    (rw c.in-Ok.is at (c.serve_lent.ensures.ends input left))

pub returns-in-Err-clause-ends : goal.returns-in-Err-clause-ends
returns-in-Err-clause-ends g c input left =
    rw c.by_door.ensures (is_served c.args.caller input (g.S.Source.left c.serve_lent.new.source)
    (g.K.Sink.written c.args.sink.now) (g.K.Sink.written c.serve_lent.new.sink) _ _
    c.in-Err.fault c.ended.result
    (λ failed. subst HasFailed (search)
    (c.serve_lent.ensures.failed input left (c.in-Err.is ∙ ap Err failed)))
    (
    let a = c.new-asker.result in
    let is = c.new-asker.ensures in
    let e = c.serve_lent.new.asker.servers in
    has_served c.args.caller input (g.S.Source.left c.serve_lent.new.source)
    (g.K.Sink.written c.args.sink.now) (g.K.Sink.written c.serve_lent.new.sink)
    (scene_of c.args.three.now (each g.D.Store.told c.args.disks.now)
    (g.L.Link.told c.args.link.now) (g.C.Clock.told c.args.clock.now)) _
    a.client a.turns a.next c.now.result a.place
    (scene_of a.servers.three.now (each g.D.Store.told a.servers.disks.now)
    (g.L.Link.told a.servers.link.now) (g.C.Clock.told a.servers.clock.now))
    (start (each g.D.Store.told e.disks.now) (g.L.Link.told e.link.now)
    (g.C.Clock.told e.clock.now)) _ (ap (λ x. x.client) is) (ap (λ x. x.turns) is)
    (ap (λ x. x.next) is ∙ c.first_number-first.ensures) (ap (λ x. x.place) is)
    (rw (
      is,
      c.new-servers.ensures.three.1,
      c.new-servers.ensures.disks.1,
      c.new-servers.ensures.link.1,
    ) refl)
    (rw (is, c.new-servers.ensures.clock.1) c.now.ensures.told)
    (rw (
      c.disks-in-Err-1.given.1 (sym (c.serve_lent.ensures.lent.2
          ∙ ap (λ x. x.servers.disks.ghost_name) is ∙ c.new-servers.ensures.disks.0)),
      c.link-in-Err-1.given.1 (sym (c.serve_lent.ensures.lent.1
          ∙ ap (λ x. x.servers.link.ghost_name) is ∙ c.new-servers.ensures.link.0)),
      c.clock-in-Err-1.given.1 (sym (c.serve_lent.ensures.lent.3
          ∙ ap (λ x. x.servers.clock.ghost_name) is ∙ c.new-servers.ensures.clock.0)),
    ) refl)
    (rw c.in-Err.is at (c.serve_lent.ensures.ends input left))
    ))
