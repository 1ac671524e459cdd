use Rattle.std.proofs.Common.{ap, subst}
use Rattle.door_group.specs.Served.{DoorServed}
use Rattle.node_loop.specs.Scene.{around, each, start}
use Rattle.harp_cli.proofs.DoorServerLaws.{door_shut}
use Rattle.harp_cli.proofs.door_servers.door_to_servers.Goals as goal

pub returns-in-Err-clause-ends : goal.returns-in-Err-clause-ends
returns-in-Err-clause-ends g c input left =
    door_shut c.args.door.caller input _ _ _ _ left
    (ap (λ ds. around ds (g.L.Link.told c.args.link.now) (g.C.Clock.told c.args.clock.now))
    c.attach_all.ensures.kept) c.in-Err.fault c.exit_of_store.result
    c.exit_of_store.ensures

pub returns-clause-ends : goal.returns-clause-ends
returns-clause-ends g c input left = (
  c.serve_door.result,
  c.exit_of_served.ensures,
  subst (λ ds. DoorServed c.args.door.caller input (g.S.Source.left c.serve_door.new.source)
      (g.K.Sink.written c.args.sink.now) (g.K.Sink.written c.serve_door.new.sink)
      (start ds (g.L.Link.told c.args.link.now) (g.C.Clock.told c.args.clock.now))
      (start (each g.D.Store.told c.serve_door.new.disks) (g.L.Link.told c.serve_door.new.link)
      (g.C.Clock.told c.serve_door.new.clock)) c.serve_door.result)
      c.attach_all.ensures.kept (c.serve_door.ensures.ends input left),
)
