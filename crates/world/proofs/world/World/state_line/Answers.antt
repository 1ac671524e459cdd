use Rattle.std.proofs.Common.{◌≡◌, ap, sym, subst, ◌∙◌}
use Rattle.group_rules.specs.Names.{place_of}
use Rattle.harp_types.specs.Trio.{value_of}
use Rattle.world_rules.specs.Host.{HostValue, IsHost}
use Rattle.world.specs.World.{WorldValue}
use Rattle.world.proofs.world.World.state_line.Goals as goal

pub returns : goal.returns
returns c w h =
    let own = h.servers c.args.server in
    let is : c.get.result.now ≡ value_of c.args.self.now.hosts c.args.server = c.get.ensures
    ∙ ap (λ (x : WorldValue). value_of x.hosts c.args.server) c.self.view_is in
    c.state_line.ensures (w.scene.group.server (place_of c.args.server)) own.stock own.saved
    (w.disks (place_of c.args.server)) (subst (λ (h : HostValue).
    IsHost (w.scene.group.server (place_of c.args.server)) own.stock own.saved
    (w.disks (place_of c.args.server)) h) (sym is) own.host)
