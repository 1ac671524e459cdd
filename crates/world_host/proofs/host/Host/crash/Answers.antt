use Rattle.std.proofs.Common.{ap, ◌∙◌}
use Rattle.world_host.proofs.Falls.{crash_falls}
use Rattle.world_host.proofs.host.Host.crash.Goals as goal
use Rattle.group_rules.specs.Names.{place_of}
use Rattle.harp_store.specs.Disk.{Moments}
use Rattle.harp_store.specs.Memory.{crashed_by}
use Rattle.world_rules.specs.Host.{HostValue, disk_of, listed}
use Rattle.std.specs.Prelude.{option_map}

pub returns-clause-falls : goal.returns-clause-falls
returns-clause-falls c =
    let pick = c.args.pick.now in
    let same = c.self.view_is ∙ c.fall.ensures in
    let new : HostValue = record {
      me = place_of c.self.inside.me;
      node = option_map (λ b. b.value) c.self.inside.node;
      disk = listed c.crash.new.self;
    } in
    crash_falls c.args.self.now new pick (record {
      me = ap (λ (h : HostValue). h.me) same;
      node = ap (λ (h : HostValue). h.node) same;
      disk = ap (λ (m : Moments). m.now) c.crash.ensures
          ∙ ap (λ (h : HostValue). crashed_by pick (disk_of h)) same;
    })
