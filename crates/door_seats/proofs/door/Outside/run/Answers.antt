use Rattle.door_seats.specs.Doors.{tells_of}
use Rattle.door_seats.proofs.Chains.{calm, fails, on, still}
use Rattle.door_seats.proofs.door.Outside.run.Goals as goal

pub loop-init : goal.loop-init
loop-init g c = record { goes = still (tells_of g.N.Connections.told g.L.Link.told g.C.Clock.told g.L.Link.faults) (tt {0}) c.args.door.now c.args.self.now }

pub returns-in_err-stirs : goal.returns-in_err-stirs
returns-in_err-stirs g c =
    let h = c.from_residual in
    on (tells_of g.N.Connections.told g.L.Link.told g.C.Clock.told g.L.Link.faults) c.loop.invariant.goes (fails (tells_of g.N.Connections.told g.L.Link.told g.C.Clock.told g.L.Link.faults) h.result c.in_err-stirs.field-0.0 h.ensures.0 h.ensures.1
    c.in_err-stirs.ensures)

pub loop-preserved : goal.loop-preserved
loop-preserved g c = record {
  goes = on (tells_of g.N.Connections.told g.L.Link.told g.C.Clock.told g.L.Link.faults) c.loop.invariant.goes (on (tells_of g.N.Connections.told g.L.Link.told g.C.Clock.told g.L.Link.faults) c.in_ok-stirs.ensures
      (calm (tells_of g.N.Connections.told g.L.Link.told g.C.Clock.told g.L.Link.faults) (tt {0}) c.turn.new.door c.turn.new.self c.pause-idle.new.self c.pause-idle.ensures.told
      c.pause-idle.ensures.others.0 c.pause-idle.ensures.others.1));
}

pub returns : goal.returns
returns g c = c.loop.invariant.goes
