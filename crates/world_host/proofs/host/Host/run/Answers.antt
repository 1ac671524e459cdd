use Rattle.std.proofs.Common.{None, Some, ap, refl, subst, sym, ◌∙◌}
use Rattle.cell_cache.specs.Entries.{AreOf}
use Rattle.world_host.proofs.Takes.{run_takes}
use Rattle.world_host.proofs.Wholes.{Stepped, had_node, ran_node}
use Rattle.world_host.proofs.host.Host.run.Goals as goal
use Rattle.harp_store.specs.Disk.{Moments, reads}
use Rattle.world_rules.specs.Host.{HostValue, disk_of, with_node}
use Rattle.world_rules.specs.Steps.{HostTakes}
use Rattle.node.specs.Node.{NodeValue}
use Rattle.harp_store.specs.Values.{stored}

pub step_into-stepped-requires-clause-cached : goal.step_into-stepped-requires-clause-cached
step_into-stepped-requires-clause-cached c =
    let runs = ran_node c.self.inside.node c.in-Some.node (stored c.self.inside.disk).now
    (sym c.take.ensures.value ∙ c.in-Some.is) c.self.invariant.1 in
    subst (λ (n : NodeValue). AreOf (Some (reads (stored c.self.inside.disk).now)) n.cached)
    (sym c.deref_mut.ensures.value) runs.cached

pub keep-requires : goal.keep-requires
keep-requires c = record {
  up = c.in-Ok.ensures.halts.up;
  served = c.in-Ok.ensures.is_server;
  cached = subst (λ (m : Moments). AreOf (Some (reads m.now)) c.step_into-stepped.new.self.cached)
      (sym c.settle.ensures) c.step_into-stepped.ensures.cached;
}

pub returns-in-Ok-clause-takes : goal.returns-in-Ok-clause-takes
returns-in-Ok-clause-takes c =
    let n = c.in-Some.node.value in
    let old = c.args.self.now in
    let new = c.step_into-stepped.new.self in
    let outs = c.step_into-stepped.new.outs in
    subst (λ (h : HostValue). HostTakes h c.keep.new.self c.args.input c.args.now None (Some outs))
    (had_node old c.self.inside.node c.in-Some.node (ap (λ (h : HostValue). h.node) c.self.view_is)
    (sym c.take.ensures.value ∙ c.in-Some.is))
    (λ g most pick i k saved r h. run_takes (with_node old n) c.keep.new.self c.args.input
    c.args.now n new (stored c.self.inside.disk) (stored c.step_into-stepped.new.store) outs
    (record {
      me = sym h.node.me;
      node = refl;
      disk = sym (ap disk_of c.self.view_is);
    }) (record {
      me = ap (λ (x : HostValue). x.me) c.keep.ensures
          ∙ ap (λ (x : HostValue). x.me) c.self.view_is ∙ sym h.node.me;
      node = ap (λ (x : HostValue). x.node) c.keep.ensures;
      disk = ap disk_of c.keep.ensures ∙ ap (λ (m : Moments). m.now) c.settle.ensures;
    }) (subst (λ (m : NodeValue). Stepped c.args.now c.args.input m new
    (Some (stored c.self.inside.disk)) (Some (stored c.step_into-stepped.new.store)) outs)
    c.deref_mut.ensures.value (record {
      steps = c.in-Ok.ensures.steps;
      listing = c.in-Ok.ensures.listing;
      me = c.step_into-stepped.ensures.brings.me;
      served = c.in-Ok.ensures.is_server;
      mark = c.in-Ok.ensures.brings.mark;
      written = c.in-Ok.ensures.brings.written;
    })) g most pick i k saved r h)
