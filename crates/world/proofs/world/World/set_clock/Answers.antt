use Rattle.std.proofs.Common.{ap}
use Rattle.harp_types.specs.Trio.{with_value}
use Rattle.world.specs.World.{WorldValue}
use Rattle.world.proofs.Quiet.{clock_taken}
use Rattle.world.proofs.world.World.set_clock.Goals as goal

pub returns-clause-taken : goal.returns-clause-taken
returns-clause-taken c =
    let a = c.args in
    clock_taken a.self.now _ a.server a.reading
    (ap (λ (x : WorldValue). record x { clocks = with_value x.clocks a.server a.reading })
    c.self.view_is)
