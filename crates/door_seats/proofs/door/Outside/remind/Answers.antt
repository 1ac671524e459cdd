use Rattle.std.proofs.Common.{◌∙◌, arith, inl, refl, subst, sym}
use Rattle.node_link.specs.declared.link.LinkFault.TheVariants.{NoMemory}
use Rattle.door_seats.specs.Doors.{tells_of}
use Rattle.door_seats.specs.Events.{Does, Reminds}
use Rattle.door_seats.proofs.Chains.{none_told, one_on, reminds, stops}
use Rattle.door_seats.proofs.door.Outside.remind.Goals as goal

pub returns-in_err-ask : goal.returns-in_err-ask
returns-in_err-ask g c =
    stops (tells_of g.N.Connections.told g.L.Link.told g.C.Clock.told g.L.Link.faults) c.from_residual.result NoMemory c.from_residual.ensures.0 c.from_residual.ensures.1
    refl (record { signs = inl refl; link = inl refl; clock = inl refl }) (omega arith)
    (λ failed. absurd cc)

pub returns-in-Some : goal.returns-in-Some
returns-in-Some g c =
    let b = c.in_ok-ask.ensures in
    reminds (tells_of g.N.Connections.told g.L.Link.told g.C.Clock.told g.L.Link.faults) c.send.result c.args.door.now _ c.args.self.now c.send.new.self c.args.n
    c.in-Some.ask b.0 (sym c.in-Some.is ∙ b.1)
    (subst (λ m. Does m.rule m.now (Reminds c.args.n b.0) c.args.door.now.hall
    c.remind.new.self) c.moment-moment.ensures b.2) refl refl c.send.ensures.sent
    c.send.ensures.kept c.send.ensures.counted c.send.ensures.others.0 c.send.ensures.others.1

pub returns-in-None : goal.returns-in-None
returns-in-None g c =
    let b = c.in_ok-ask.ensures in
    record {
      events = one_on c.args.door.now.rule (Reminds c.args.n b.0) _ _ (record {
        does = subst (λ m. Does m.rule m.now (Reminds c.args.n b.0) c.args.door.now.hall
            c.remind.new.self) c.moment-moment.ensures b.2;
        signs = refl;
        link = none_told b.0 (g.L.Link.told c.args.self.now.link) (sym c.in-None.is ∙ b.1);
        clock = refl;
        now = refl;
      });
      rule = refl;
      counted = (omega arith, λ failed. absurd cc);
    }
