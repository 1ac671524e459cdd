use Rattle.std.proofs.Common.{Ok}
use Rattle.door_seats.specs.Doors.{Goes, tells_of}
use Rattle.door_seats.proofs.door.Outside.serve_all.Given as goal

-- what was done until now went well
abbrev pub invariant-loop-n : goal.invariant-loop-n
invariant-loop-n g l = record {
  goes : Goes (tells_of g.N.Connections.told g.L.Link.told g.C.Clock.told g.L.Link.faults) (Ok (tt {0})) l.fn.door l.fn.self l.door l.self;
}
