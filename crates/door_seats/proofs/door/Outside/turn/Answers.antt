use Rattle.std.proofs.Common.{refl}
use Rattle.door_seats.specs.Doors.{tells_of}
use Rattle.door_seats.proofs.Chains.{again, fails, on, wakes, well}
use Rattle.door_seats.proofs.door.Outside.turn.Goals as goal

pub returns-in_err-served : goal.returns-in_err-served
returns-in_err-served g c =
    let h = c.from_residual in
    on (tells_of g.N.Connections.told g.L.Link.told g.C.Clock.told g.L.Link.faults) (wakes (tells_of g.N.Connections.told g.L.Link.told g.C.Clock.told g.L.Link.faults) c.args.door.now _ c.args.self.now _ refl refl c.now-door.ensures.told refl refl)
    (on (tells_of g.N.Connections.told g.L.Link.told g.C.Clock.told g.L.Link.faults) (well (tells_of g.N.Connections.told g.L.Link.told g.C.Clock.told g.L.Link.faults) (tt {0}) c.seat_next-seated.ensures) (fails (tells_of g.N.Connections.told g.L.Link.told g.C.Clock.told g.L.Link.faults) h.result c.in_err-served.field-0.0
    h.ensures.0 h.ensures.1 c.in_err-served.ensures))

pub returns-in_err-heard : goal.returns-in_err-heard
returns-in_err-heard g c =
    let h = c.from_residual-in_err-heard in
    on (tells_of g.N.Connections.told g.L.Link.told g.C.Clock.told g.L.Link.faults) (wakes (tells_of g.N.Connections.told g.L.Link.told g.C.Clock.told g.L.Link.faults) c.args.door.now _ c.args.self.now _ refl refl c.now-door.ensures.told refl refl)
    (on (tells_of g.N.Connections.told g.L.Link.told g.C.Clock.told g.L.Link.faults) (well (tells_of g.N.Connections.told g.L.Link.told g.C.Clock.told g.L.Link.faults) (tt {0}) c.seat_next-seated.ensures) (on (tells_of g.N.Connections.told g.L.Link.told g.C.Clock.told g.L.Link.faults) c.in_ok-served.ensures (fails (tells_of g.N.Connections.told g.L.Link.told g.C.Clock.told g.L.Link.faults) h.result
    c.in_err-heard.field-0.0 h.ensures.0 h.ensures.1 c.in_err-heard.ensures)))

pub returns-then-served : goal.returns-then-served
returns-then-served g c =
    on (tells_of g.N.Connections.told g.L.Link.told g.C.Clock.told g.L.Link.faults) (wakes (tells_of g.N.Connections.told g.L.Link.told g.C.Clock.told g.L.Link.faults) c.args.door.now _ c.args.self.now _ refl refl c.now-door.ensures.told refl refl)
    (on (tells_of g.N.Connections.told g.L.Link.told g.C.Clock.told g.L.Link.faults) (well (tells_of g.N.Connections.told g.L.Link.told g.C.Clock.told g.L.Link.faults) (tt {0}) c.seat_next-seated.ensures) (on (tells_of g.N.Connections.told g.L.Link.told g.C.Clock.told g.L.Link.faults) c.in_ok-served.ensures
    (again (tells_of g.N.Connections.told g.L.Link.told g.C.Clock.told g.L.Link.faults) _ c.in_ok-heard.ensures)))

pub returns-else-served : goal.returns-else-served
returns-else-served g c =
    on (tells_of g.N.Connections.told g.L.Link.told g.C.Clock.told g.L.Link.faults) (wakes (tells_of g.N.Connections.told g.L.Link.told g.C.Clock.told g.L.Link.faults) c.args.door.now _ c.args.self.now _ refl refl c.now-door.ensures.told refl refl)
    (on (tells_of g.N.Connections.told g.L.Link.told g.C.Clock.told g.L.Link.faults) (well (tells_of g.N.Connections.told g.L.Link.told g.C.Clock.told g.L.Link.faults) (tt {0}) c.seat_next-seated.ensures) (on (tells_of g.N.Connections.told g.L.Link.told g.C.Clock.told g.L.Link.faults) c.in_ok-served.ensures c.in_ok-heard.ensures))
