use Rattle.std.proofs.Common.{ap}
use Rattle.world.specs.Clocks.{later}
use Rattle.world.specs.World.{WorldValue}
use Rattle.world.proofs.Quiet.{advance_taken}
use Rattle.world.proofs.world.World.advance.Goals as goal

pub returns-clause-taken : goal.returns-clause-taken
returns-clause-taken c = advance_taken c.args.self.now _ c.args.millis
    (ap (λ (x : WorldValue). record x {
      clocks = later x.clocks c.args.millis;
    }) c.self.view_is)
