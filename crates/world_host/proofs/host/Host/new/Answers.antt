use Rattle.std.proofs.Common.{None, ap, refl, subst, ℕ}
use Rattle.world_host.proofs.Starts.{first_host}
use Rattle.world_host.proofs.host.Host.new.Goals as goal
use Rattle.world_host.specs.Starts.{HostStarts}
use Rattle.group_rules.specs.Names.{place_of}
use Rattle.harp_store.specs.Disk.{Moments}
use Rattle.world_rules.specs.Host.{HostValue, listed}

pub returns-clause-first : goal.returns-clause-first
returns-clause-first c =
    let old : HostValue = record {
      me = place_of c.args.me;
      node = None;
      disk = listed c.new.result;
    } in
    let new = c.start.new.self in
    first_host (place_of c.args.me) old new (record {
      me = refl;
      node = refl;
      disk = ap (λ (m : Moments). m.now) c.new.ensures;
    }) c.start.ensures.me
    (subst (λ (delta : ℕ). HostStarts old new 0 delta) c.first.ensures
    c.in_ok-start.ensures.starts)
