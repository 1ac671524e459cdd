use Rattle.std.proofs.Common.{◌∙◌, Err, ap, arith, inl, refl, subst, sym}
use Rattle.node_link.specs.declared.link.LinkFault.TheVariants.{NoMemory}
use Rattle.door_seats.specs.Doors.{tells_of}
use Rattle.door_seats.specs.Events.{Begins, Does}
use Rattle.door_seats.proofs.Chains.{none_told, one_on, sent_told, stops}
use Rattle.door_seats.proofs.door.Outside.begin.Goals as goal

pub returns-in_err-ask : goal.returns-in_err-ask
returns-in_err-ask g c =
    stops (tells_of g.N.Connections.told g.L.Link.told g.C.Clock.told g.L.Link.faults) c.from_residual.result NoMemory c.from_residual.ensures.0 c.from_residual.ensures.1
    refl (record { signs = inl refl; link = inl refl; clock = inl refl }) (omega arith)
    (λ failed. absurd cc)

pub returns-in_err-send-in-Some : goal.returns-in_err-send-in-Some
returns-in_err-send-in-Some g c =
    let h = c.from_residual-in_err-send-in-Some in
    let e = c.in_err-send-in-Some.ensures in
    stops (tells_of g.N.Connections.told g.L.Link.told g.C.Clock.told g.L.Link.faults) h.result c.in_err-send-in-Some.field-0.0 h.ensures.0 h.ensures.1 refl
    (record {
      signs = inl (ap g.N.Connections.told e.others.0);
      link = inl e.kept;
      clock = inl (ap g.C.Clock.told e.others.1);
    })
    e.counted.0 (λ failed. e.counted.1 (ap Err failed))

pub returns-in_ok-send-in-Some : goal.returns-in_ok-send-in-Some
returns-in_ok-send-in-Some g c =
    let e = c.in_ok-send-in-Some.ensures in
    let b = c.in_ok-ask.ensures in
    record {
      events = one_on c.args.door.now.rule (Begins c.args.n b.0) _ _ (record {
        does = subst (λ m. Does m.rule m.now (Begins c.args.n b.0) c.args.door.now.hall
            c.begin.new.self) c.moment-moment.ensures b.2;
        signs = ap g.N.Connections.told e.others.0;
        link = sent_told b.0 c.in-Some.ask (g.L.Link.told c.args.self.now.link)
            (g.L.Link.told c.send.new.self.link) (sym c.in-Some.is ∙ b.1) e.sent;
        clock = ap g.C.Clock.told e.others.1;
        now = refl;
      });
      rule = refl;
      counted = (e.counted.0, λ failed. absurd cc);
    }

pub returns-in-None : goal.returns-in-None
returns-in-None g c =
    let b = c.in_ok-ask.ensures in
    record {
      events = one_on c.args.door.now.rule (Begins c.args.n b.0) _ _ (record {
        does = subst (λ m. Does m.rule m.now (Begins c.args.n b.0) c.args.door.now.hall
            c.begin.new.self) c.moment-moment.ensures b.2;
        signs = refl;
        link = none_told b.0 (g.L.Link.told c.args.self.now.link) (sym c.in-None.is ∙ b.1);
        clock = refl;
        now = refl;
      });
      rule = refl;
      counted = (omega arith, λ failed. absurd cc);
    }
