use Rattle.door_seats.specs.Doors.{tells_of}
use Rattle.door_seats.proofs.Chains.{fails, on, well}
use Rattle.door_seats.proofs.door.Outside.serve.Goals as goal

pub returns-in_err-asked : goal.returns-in_err-asked
returns-in_err-asked g c =
    let h = c.from_residual-in_err-asked in
    on (tells_of g.N.Connections.told g.L.Link.told g.C.Clock.told g.L.Link.faults) c.in_ok-came.ensures (fails (tells_of g.N.Connections.told g.L.Link.told g.C.Clock.told g.L.Link.faults) h.result c.in_err-asked.field-0.0 h.ensures.0 h.ensures.1
    c.in_err-asked.ensures)

pub returns-in_err-remind : goal.returns-in_err-remind
returns-in_err-remind g c =
    let h = c.from_residual-in_err-remind in
    on (tells_of g.N.Connections.told g.L.Link.told g.C.Clock.told g.L.Link.faults) c.in_ok-came.ensures (on (tells_of g.N.Connections.told g.L.Link.told g.C.Clock.told g.L.Link.faults) c.in_ok-asked.ensures
    (fails (tells_of g.N.Connections.told g.L.Link.told g.C.Clock.told g.L.Link.faults) h.result c.in_err-remind.field-0.0 h.ensures.0 h.ensures.1 c.in_err-remind.ensures))

pub returns-then-came : goal.returns-then-came
returns-then-came g c =
    on (tells_of g.N.Connections.told g.L.Link.told g.C.Clock.told g.L.Link.faults) c.in_ok-came.ensures (on (tells_of g.N.Connections.told g.L.Link.told g.C.Clock.told g.L.Link.faults) c.in_ok-asked.ensures (on (tells_of g.N.Connections.told g.L.Link.told g.C.Clock.told g.L.Link.faults) c.in_ok-remind.ensures
    (on (tells_of g.N.Connections.told g.L.Link.told g.C.Clock.told g.L.Link.faults) (well (tells_of g.N.Connections.told g.L.Link.told g.C.Clock.told g.L.Link.faults) (tt {0}) c.give.ensures) (well (tells_of g.N.Connections.told g.L.Link.told g.C.Clock.told g.L.Link.faults) c.in_ok-came.came c.end.ensures))))

pub returns-else-came : goal.returns-else-came
returns-else-came g c =
    on (tells_of g.N.Connections.told g.L.Link.told g.C.Clock.told g.L.Link.faults) c.in_ok-came.ensures (on (tells_of g.N.Connections.told g.L.Link.told g.C.Clock.told g.L.Link.faults) c.in_ok-asked.ensures (on (tells_of g.N.Connections.told g.L.Link.told g.C.Clock.told g.L.Link.faults) c.in_ok-remind.ensures
    (on (tells_of g.N.Connections.told g.L.Link.told g.C.Clock.told g.L.Link.faults) (well (tells_of g.N.Connections.told g.L.Link.told g.C.Clock.told g.L.Link.faults) (tt {0}) c.give.ensures) (well (tells_of g.N.Connections.told g.L.Link.told g.C.Clock.told g.L.Link.faults) c.in_ok-asked.asked c.end.ensures))))
