use Rattle.std.proofs.Common.{Err, ap, arith, inl, inr, refl, subst, sym}
use Rattle.harp_types.specs.declared.server.ServerId.TheVariants.{Zero}
use Rattle.node_link.specs.Traffic.{TakesNext}
use Rattle.node_link.specs.declared.link.LinkFault.TheVariants.{NoMemory}
use Rattle.door_seats.specs.Doors.{Heard, tells_of}
use Rattle.door_seats.proofs.Chains.{heard_ask, heard_none, stops}
use Rattle.door_seats.proofs.door.Outside.hear.Goals as goal

pub returns-in_err-datagram : goal.returns-in_err-datagram
returns-in_err-datagram g c =
    let h = c.from_residual in
    let e = c.in_err-datagram.ensures in
    stops (tells_of g.N.Connections.told g.L.Link.told g.C.Clock.told g.L.Link.faults) h.result c.in_err-datagram.field-0.0 h.ensures.0 h.ensures.1 refl
    (record { signs = inl refl; link = inl e.kept; clock = inl refl })
    e.count (λ failed. e.rose (ap Err failed))

pub returns-in_err-ask : goal.returns-in_err-ask
returns-in_err-ask g c =
    let h = c.from_residual-in_err-ask in
    let e = c.in_ok-datagram.ensures in
    stops (tells_of g.N.Connections.told g.L.Link.told g.C.Clock.told g.L.Link.faults) h.result NoMemory h.ensures.0 h.ensures.1 refl
    (record { signs = inl refl; link = inr (c.in_ok-datagram.field-0, e.taken); clock = inl refl })
    e.count (λ failed. absurd cc)

pub returns-in_err-send-in-Some-2 : goal.returns-in_err-send-in-Some-2
returns-in_err-send-in-Some-2 g c =
    let h = c.from_residual-in_err-send-in-Some-2 in
    let e = c.in_ok-datagram.ensures in
    let f = c.in_err-send-in-Some-2.ensures in
    stops (tells_of g.N.Connections.told g.L.Link.told g.C.Clock.told g.L.Link.faults) h.result c.in_err-send-in-Some-2.field-0.0 h.ensures.0 h.ensures.1 refl
    (record {
      signs = inl (ap g.N.Connections.told f.others.0);
      link = inr (
        c.in_ok-datagram.field-0,
        subst (TakesNext Zero c.in_ok-datagram.field-0
            (g.L.Link.told c.args.self.now.link)) (sym f.kept) e.taken,
      );
      clock = inl (ap g.C.Clock.told f.others.1);
    })
    (omega (arith, e.count, f.counted.0))
    (λ failed. let rose = f.counted.1 (ap Err failed) in omega (arith, e.count, rose))

pub returns-in-Some-2 : goal.returns-in-Some-2
returns-in-Some-2 g c =
    let e = c.in_ok-datagram.ensures in
    let f = c.in_ok-send-in-Some-2.ensures in
    heard_ask (tells_of g.N.Connections.told g.L.Link.told g.C.Clock.told g.L.Link.faults) c.args.door.now _ c.args.self.now c.send.new.self c.moment-moment.result
    c.moment-moment.ensures c.in-Some.datagram c.in-Some-2.ask (g.L.Link.told c.receive.new.self)
    (subst (λ x. TakesNext Zero x (g.L.Link.told c.args.self.now.link)
    (g.L.Link.told c.receive.new.self)) c.in-Some.is e.taken)
    (subst (λ x. Heard c.moment-moment.result c.in-Some.datagram x c.args.door.now.hall
    c.hear.new.self) c.in-Some-2.is c.in_ok-ask.ensures)
    refl refl f.sent (omega (arith, e.count, f.counted.0))
    (ap g.N.Connections.told f.others.0) (ap g.C.Clock.told f.others.1)

pub returns : goal.returns
returns g c =
    let e = c.in_ok-datagram.ensures in
    heard_none (tells_of g.N.Connections.told g.L.Link.told g.C.Clock.told g.L.Link.faults) c.args.door.now _ c.args.self.now _ c.moment-moment.result
    c.moment-moment.ensures c.in-Some.datagram
    (subst (λ x. TakesNext Zero x (g.L.Link.told c.args.self.now.link)
    (g.L.Link.told c.receive.new.self)) c.in-Some.is e.taken)
    (subst (λ x. Heard c.moment-moment.result c.in-Some.datagram x c.args.door.now.hall
    c.hear.new.self) c.in-None.is c.in_ok-ask.ensures)
    refl refl e.count refl refl
