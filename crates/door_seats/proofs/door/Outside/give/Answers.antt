use Rattle.std.proofs.Common.{refl, take}
use Rattle.door_seats.specs.Events.{Breaks, Goes}
use Rattle.door_seats.proofs.Chains.{given, one_on}
use Rattle.door_seats.proofs.door.Outside.give.Goals as goal

pub returns-in-Some : goal.returns-in-Some
returns-in-Some g c =
    let bytes = c.unsent-unsent.result.now in
    record {
      events = one_on c.args.door.now.rule (Goes c.args.n (take c.in-Some.count bytes)) _ _ (record {
        does = given c.args.n c.in-Some.count bytes c.args.door.now.hall c.go.new.self
            c.unsent-unsent.ensures c.go.ensures;
        signs = c.in-Some.ensures;
        link = refl;
        clock = refl;
        now = refl;
      });
      rule = refl;
      link = refl;
    }

pub returns-in-Over : goal.returns-in-Over
returns-in-Over g c = record {
  events = one_on c.args.door.now.rule (Breaks c.args.n) _ _ (record {
    does = c.lose.ensures;
    signs = c.in-Over.ensures;
    link = refl;
    clock = refl;
    now = refl;
  });
  rule = refl;
  link = refl;
}
