use Rattle.std.proofs.Common.{ap, ◌∙◌}
use Rattle.harp_types.specs.Trio.{value_of}
use Rattle.world.specs.World.{WorldValue}
use Rattle.world.proofs.Hosted.{hosts_boot, on_ok}
use Rattle.world.proofs.world.World.boot_host.Goals as goal

pub returns-clause-boots : goal.returns-clause-boots
returns-clause-boots c =
    let a = c.args in
    on_ok c.boot.result (hosts_boot c.self.inside.hosts a.server
    (value_of a.self.now.hosts a.server) c.get_mut.result.now c.boot.new.self
    (c.get_mut.ensures.value ∙ ap (λ (x : WorldValue). value_of x.hosts a.server) c.self.view_is)
    c.get-now.result.now c.self.inside.delta (value_of a.self.now.clocks a.server) a.self.now.delta
    (c.get-now.ensures ∙ ap (λ (x : WorldValue). value_of x.clocks a.server) c.self.view_is)
    (ap (λ (x : WorldValue). x.delta) c.self.view_is)) c.boot.ensures.boots
