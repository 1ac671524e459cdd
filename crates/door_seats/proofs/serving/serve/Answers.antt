use Rattle.std.proofs.Common.{refl}
use Rattle.door_seats.specs.Doors.{IsNew, tells_of}
use Rattle.std.proofs.Common.{subst}
use Rattle.door_seats.proofs.Outcomes.{serves, serves_none}
use Rattle.door_seats.proofs.serving.serve.Goals as goal

pub returns-in_err-door : goal.returns-in_err-door
returns-in_err-door g c =
    let h = c.from_residual in
    serves_none (tells_of g.N.Connections.told g.L.Link.told g.C.Clock.told g.L.Link.faults) c.args.rule c.args.client c.now.result h.result c.args.outside.now _
    h.ensures.0 h.ensures.1 c.now.ensures.told refl refl

pub returns : goal.returns
returns g c =
    serves (tells_of g.N.Connections.told g.L.Link.told g.C.Clock.told g.L.Link.faults) c.args.rule c.args.client c.now.result c.run.result c.args.outside.now
    (record {
      connections = c.args.outside.now.connections;
      link = c.args.outside.now.link;
      clock = c.now.new.self;
    }) c.run.new.self c.in_ok-door.door c.run.new.door c.now.ensures.told refl refl
    (subst (λ n. IsNew c.args.rule c.args.client n c.in_ok-door.door) c.first_number-first.ensures
    c.in_ok-door.ensures) c.run.ensures
