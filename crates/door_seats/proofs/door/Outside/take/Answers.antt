use Rattle.std.proofs.Common.{◌≡◌, ◌∙◌, ap, arith, inl, inr, refl, subst}
use Rattle.node_link.specs.declared.link.LinkFault.TheVariants.{NoMemory}
use Rattle.door_seats.specs.Connections.{taken_at}
use Rattle.door_seats.specs.Doors.{tells_of}
use Rattle.door_seats.specs.Events.{Changes, Comes, Ends}
use Rattle.door_seats.specs.Seats.{come, over}
use Rattle.door_seats.specs.declared.seat.Line.TheVariants as line
use Rattle.door_seats.proofs.Chains.{one_on, seen, stops}
use Rattle.door_seats.proofs.door.Outside.take.Goals as goal

pub returns-in_err-bytes : goal.returns-in_err-bytes
returns-in_err-bytes g c =
    stops (tells_of g.N.Connections.told g.L.Link.told g.C.Clock.told g.L.Link.faults) c.from_residual.result NoMemory c.from_residual.ensures.0 c.from_residual.ensures.1
    refl (record { signs = inl c.in_err-bytes.ensures.kept; link = inl refl; clock = inl refl })
    (omega arith) (λ failed. absurd cc)

pub returns-in_err-come-in-Bytes : goal.returns-in_err-come-in-Bytes
returns-in_err-come-in-Bytes g c =
    let h = c.from_residual-in_err-come-in-Bytes in
    let before = g.N.Connections.told c.args.self.now.connections in
    stops (tells_of g.N.Connections.told g.L.Link.told g.C.Clock.told g.L.Link.faults) h.result NoMemory h.ensures.0 h.ensures.1 refl (record {
      signs = inr (
        c.args.n,
        c.in-Bytes.bytes,
        c.in_ok-bytes.ensures.told ∙ ap (λ x. taken_at c.args.n x before) c.in-Bytes.is,
      );
      link = inl refl;
      clock = inl refl;
    })
    (omega arith) (λ failed. absurd cc)

pub returns-in_ok-come-in-Bytes : goal.returns-in_ok-come-in-Bytes
returns-in_ok-come-in-Bytes g c =
    let before = g.N.Connections.told c.args.self.now.connections in
    record {
      events = one_on c.args.door.now.rule (Comes c.args.n c.in-Bytes.bytes) _ _ (record {
        does = subst (λ b. Changes c.args.n (λ s. s.line ≡ line.Open) (come b)
            c.args.door.now.hall c.come.new.self) c.as_slice.ensures
            (seen c.args.n _ _ (come c.as_slice.result.now) c.args.door.now.hall c.come.new.self
            c.has_room.ensures (λ s is. is c.if-not-has_room.false)
            c.in_ok-come-in-Bytes.ensures);
        signs = c.in_ok-bytes.ensures.told
            ∙ ap (λ x. taken_at c.args.n x before) c.in-Bytes.is;
        link = refl;
        clock = refl;
        now = refl;
      });
      rule = refl;
      counted = (omega arith, λ failed. absurd cc);
    }

pub returns-in-Over : goal.returns-in-Over
returns-in-Over g c =
    let before = g.N.Connections.told c.args.self.now.connections in
    record {
      events = one_on c.args.door.now.rule (Ends c.args.n) _ _ (record {
        does = seen c.args.n _ _ over c.args.door.now.hall c.end.new.self
            c.has_room.ensures (λ s is. is c.if-not-has_room.false) c.end.ensures;
        signs = c.in_ok-bytes.ensures.told
            ∙ ap (λ x. taken_at c.args.n x before) c.in-Over.is;
        link = refl;
        clock = refl;
        now = refl;
      });
      rule = refl;
      counted = (omega arith, λ failed. absurd cc);
    }
