use Rattle.std.proofs.Common.{refl}
use Rattle.door_seats.specs.Events.{Arrives}
use Rattle.door_seats.specs.Seats.{arrived}
use Rattle.door_seats.proofs.Chains.{one_on, seen}
use Rattle.door_seats.proofs.door.Outside.accept.Goals as goal

pub returns : goal.returns
returns g c = record {
  events = one_on c.args.door.now.rule (Arrives c.args.n) _ _ (record {
    does = seen c.args.n _ _ arrived c.args.door.now.hall c.arrive.new.self c.is_free.ensures
        (λ s free. free.0 c.if-not-is_free.false) c.arrive.ensures;
    signs = c.if-not-accept.ensures;
    link = refl;
    clock = refl;
    now = refl;
  });
  rule = refl;
  link = refl;
}
