use Rattle.std.proofs.Common.{ap, ◌∙◌}
use Rattle.harp_types.specs.Trio.{value_of}
use Rattle.world.specs.World.{WorldValue}
use Rattle.world.proofs.Hosted.{hosts_fail, on_ok}
use Rattle.world.proofs.world.World.fail_host.Goals as goal

pub returns-clause-fails : goal.returns-clause-fails
returns-clause-fails c = on_ok c.power.result (hosts_fail c.self.inside.hosts c.args.server
    (value_of c.args.self.now.hosts c.args.server) c.get_mut.result.now c.power.new.self
    (c.get_mut.ensures.value ∙ ap (λ (x : WorldValue). value_of x.hosts c.args.server)
    c.self.view_is) c.args.stop) c.power.ensures.fails
