use Rattle.std.proofs.Common.{refl}
use Rattle.door_seats.specs.Doors.{tells_of}
use Rattle.harpd.specs.Door.{doorway}
use Rattle.harpd.proofs.DoorLaws.{ends_served}
use Rattle.harpd.proofs.door.serve_door.Goals as goal

pub returns-clause-ends : goal.returns-clause-ends
returns-clause-ends g c =
    let t = tells_of g.N.Connections.told g.L.Link.told g.C.Clock.told g.L.Link.faults in
    ends_served (doorway t c.args.door.now c.serve.new.outside) c.args.serves c.serve.result
    (record {
      opened = record {
        connections = c.open.new.self;
        link = c.bind.new.self;
        clock = c.args.door.now.clock;
      };
      silent = rw (c.open.ensures.kept, c.bind.ensures.kept) refl;
      count = c.bind.ensures.count;
      served = c.serve.ensures;
    }) c.exit_of.result c.exit_of.ensures
