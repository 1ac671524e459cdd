use Rattle.std.proofs.Common.{◌≡◌, ◌∙◌, Option, Some, ap, subst, sym}
use Rattle.cell_cache.specs.Entries.{AreOf}
use Rattle.harp_store.specs.Disk.{Moments, reads}
use Rattle.node.specs.Node.{NodeValue}
use Rattle.node.specs.Wants.{Shows}
use Rattle.harp_store.specs.Values.{stored}
use Rattle.world_host.proofs.Stills.{running_still}
use Rattle.world_host.specs.Shows.{IsNodeStill}
use Rattle.world_host.proofs.host.Host.show_by.Goals as goal
use Rattle.world_rules.specs.Host.{HostValue, disk_of}

same_told : (old new : Moments) → Some new ≡ Some old → new ≡ old
same_told old new same = cc

pub show-shown-requires : goal.show-shown-requires
show-shown-requires c =
    subst (λ (n : NodeValue). AreOf (Some (reads (stored c.self.inside.disk).now)) n.cached)
    (sym c.deref_mut.ensures.value)
    (subst (λ (h : HostValue). AreOf (Some (reads (disk_of h))) c.args.node.value.cached)
    (sym c.self.view_is) c.requires.runs.cached)

pub keep-requires : goal.keep-requires
keep-requires c =
    let new = c.show-shown.new.self in
    running_still (disk_of c.args.self.now) _ c.args.node.value new
    (subst (λ (n : NodeValue). new ≡ record n { cached = new.cached }) c.deref_mut.ensures.value
    c.in-Ok.ensures.leaves.0) c.requires.runs
    (subst (λ (m : Moments). AreOf (Some (reads m.now)) new.cached) (sym c.settle.ensures)
    c.in-Ok.ensures.leaves.2)

pub returns-in-Ok-clause-shown : goal.returns-in-Ok-clause-shown
returns-in-Ok-clause-shown c =
    subst (λ (h : HostValue). Shows c.args.node.value (Some (reads (disk_of h))) c.args.want.now
    c.in-Ok.shown) c.self.view_is
    (subst (λ (n : NodeValue). Shows n (Some (reads (stored c.self.inside.disk).now))
    c.args.want.now c.in-Ok.shown) c.deref_mut.ensures.value c.in-Ok.ensures.shown)

pub returns-in-Ok-clause-still : goal.returns-in-Ok-clause-still
returns-in-Ok-clause-still c =
    let new = c.show-shown.new.self in
    let same = c.keep.ensures in
    record {
      me = ap (λ (h : HostValue). h.me) same ∙ ap (λ (h : HostValue). h.me) c.self.view_is;
      node = subst (IsNodeStill (Some c.args.node.value))
          (sym (ap (λ (h : HostValue). h.node) same))
          (subst (λ (n : NodeValue). new ≡ record n { cached = new.cached })
          c.deref_mut.ensures.value c.in-Ok.ensures.leaves.0);
      disk = ap (λ (h : HostValue). disk_of h) same
          ∙ ap (λ (m : Moments). m.now) c.settle.ensures
          ∙ ap (λ (m : Moments). m.now) (same_told _ _ c.in-Ok.ensures.leaves.1)
          ∙ ap (λ (h : HostValue). disk_of h) c.self.view_is;
    }
