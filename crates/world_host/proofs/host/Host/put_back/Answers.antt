use Rattle.std.proofs.Common.{ap, ◌∙◌}
use Rattle.harp_store.specs.Disk.{Moments}
use Rattle.world_host.proofs.host.Host.put_back.Goals as goal
use Rattle.world_rules.specs.Host.{HostValue, disk_of}

pub returns-clause-lifted : goal.returns-clause-lifted
returns-clause-lifted c went =
    ap (λ (h : HostValue). disk_of h) c.put_disk-2.ensures
    ∙ ap (λ (m : Moments). m.now) c.lift.ensures
