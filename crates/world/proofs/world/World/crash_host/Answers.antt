use Rattle.std.proofs.Common.{ap, ◌∙◌}
use Rattle.harp_types.specs.Trio.{value_of}
use Rattle.world.specs.World.{WorldValue}
use Rattle.world.proofs.Hosted.{hosts_fall}
use Rattle.world.proofs.world.World.crash_host.Goals as goal

pub returns-clause-falls : goal.returns-clause-falls
returns-clause-falls c = hosts_fall c.self.inside.hosts c.args.server
    (value_of c.args.self.now.hosts c.args.server) c.get_mut.result.now c.crash.new.self
    (c.get_mut.ensures.value ∙ ap (λ (x : WorldValue). value_of x.hosts c.args.server)
    c.self.view_is) c.args.kept.now c.crash.ensures.falls
