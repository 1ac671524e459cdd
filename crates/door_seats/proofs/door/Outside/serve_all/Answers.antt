use Rattle.door_seats.specs.Doors.{tells_of}
use Rattle.door_seats.proofs.Chains.{again, fails, on, still}
use Rattle.door_seats.proofs.door.Outside.serve_all.Goals as goal

pub loop-n-init : goal.loop-n-init
loop-n-init g c = record { goes = still (tells_of g.N.Connections.told g.L.Link.told g.C.Clock.told g.L.Link.faults) (tt {0}) c.args.door.now c.args.self.now }

pub returns-in_err-serve : goal.returns-in_err-serve
returns-in_err-serve g c =
    let h = c.from_residual in
    on (tells_of g.N.Connections.told g.L.Link.told g.C.Clock.told g.L.Link.faults) c.loop-n.invariant.goes (fails (tells_of g.N.Connections.told g.L.Link.told g.C.Clock.told g.L.Link.faults) h.result c.in_err-serve.field-0.0 h.ensures.0
    h.ensures.1 c.in_err-serve.ensures)

pub loop-n-preserved : goal.loop-n-preserved
loop-n-preserved g c =
    record { goes = again (tells_of g.N.Connections.told g.L.Link.told g.C.Clock.told g.L.Link.faults) (tt {0}) (on (tells_of g.N.Connections.told g.L.Link.told g.C.Clock.told g.L.Link.faults) c.loop-n.invariant.goes c.in_ok-serve.ensures) }

pub returns : goal.returns
returns g c = again (tells_of g.N.Connections.told g.L.Link.told g.C.Clock.told g.L.Link.faults) c.loop-n.stirs c.loop-n.invariant.goes
