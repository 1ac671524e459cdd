use Rattle.std.proofs.Common.{◌∙◌, refl, sym}
use Rattle.door_seats.specs.Events.{Leaves}
use Rattle.door_seats.specs.Seats.{left}
use Rattle.door_seats.proofs.Chains.{one_on, seen}
use Rattle.door_seats.proofs.door.Outside.end.Goals as goal

pub returns-then-is_leaving : goal.returns-then-is_leaving
returns-then-is_leaving g c = record {
  events = one_on c.args.door.now.rule (Leaves c.args.n) _ _ (record {
    does = seen c.args.n _ _ left c.args.door.now.hall c.leave.new.self c.is_leaving.ensures
        (λ s is. sym is ∙ c.if-is_leaving.true) c.leave.ensures;
    signs = c.close.ensures;
    link = refl;
    clock = refl;
    now = refl;
  });
  rule = refl;
  link = refl;
}
