use Rattle.std.proofs.Common.{Some, ap, refl, sym}
use Rattle.harp_types.specs.Trio.{with_value}
use Rattle.world_rules.specs.declared.stop.Stop.{Stop}
use Rattle.world.specs.World.{WorldValue}
use Rattle.world.proofs.Quiet.{stop_taken}
use Rattle.world.proofs.world.World.arm_stop.Goals as goal

pub returns-clause-taken : goal.returns-clause-taken
returns-clause-taken c =
    let a = c.args in
    let stop : Stop = record { calls = a.calls; pick = c.in_ok-copy.field-0 } in
    stop_taken a.self.now _ a.server a.calls a.pick.now stop
    (ap (λ (x : WorldValue). record x {
      stops = with_value x.stops a.server (Some stop);
    }) c.self.view_is) (refl, sym c.in_ok-copy.ensures)
