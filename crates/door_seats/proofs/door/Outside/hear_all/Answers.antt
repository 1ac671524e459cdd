use Rattle.door_seats.specs.Doors.{tells_of}
use Rattle.door_seats.proofs.Chains.{again, fails, on, still}
use Rattle.door_seats.proofs.door.Outside.hear_all.Goals as goal

pub loop-init : goal.loop-init
loop-init g c = record { goes = still (tells_of g.N.Connections.told g.L.Link.told g.C.Clock.told g.L.Link.faults) (tt {0}) c.args.door.now c.args.self.now }

pub returns-in_err-hear : goal.returns-in_err-hear
returns-in_err-hear g c =
    let h = c.from_residual in
    on (tells_of g.N.Connections.told g.L.Link.told g.C.Clock.told g.L.Link.faults) c.loop.invariant.goes (fails (tells_of g.N.Connections.told g.L.Link.told g.C.Clock.told g.L.Link.faults) h.result c.in_err-hear.field-0.0 h.ensures.0 h.ensures.1
    c.in_err-hear.ensures)

pub returns-then-not-branch : goal.returns-then-not-branch
returns-then-not-branch g c =
    again (tells_of g.N.Connections.told g.L.Link.told g.C.Clock.told g.L.Link.faults) c.loop.stirs (on (tells_of g.N.Connections.told g.L.Link.told g.C.Clock.told g.L.Link.faults) c.loop.invariant.goes c.in_ok-hear.ensures)

pub loop-preserved : goal.loop-preserved
loop-preserved g c =
    record { goes = again (tells_of g.N.Connections.told g.L.Link.told g.C.Clock.told g.L.Link.faults) (tt {0}) (on (tells_of g.N.Connections.told g.L.Link.told g.C.Clock.told g.L.Link.faults) c.loop.invariant.goes c.in_ok-hear.ensures) }

pub returns : goal.returns
returns g c = again (tells_of g.N.Connections.told g.L.Link.told g.C.Clock.told g.L.Link.faults) c.loop.stirs c.loop.invariant.goes
