use Rattle.std.proofs.Common.{None, Some, ap, refl, subst, sym, ◌∙◌}
use Rattle.cell_cache.specs.Entries.{AreOf}
use Rattle.world_host.proofs.StopStores.{armed_now, on_told}
use Rattle.world_host.proofs.Takes.{TellsDisk, either_way}
use Rattle.world_host.proofs.Wholes.{Stepped, had_node, ran_node}
use Rattle.world_host.proofs.UntilStops.{takes_on, takes_until}
use Rattle.world_host.proofs.host.Host.run_until.Goals as goal
use Rattle.harp_store.specs.Disk.{Disk, Moments, reads}
use Rattle.world_rules.specs.Host.{HostValue, disk_of, with_node}
use Rattle.world_rules.specs.Steps.{HostTakes}
use Rattle.node.specs.Node.{NodeValue}
use Rattle.harp_store.specs.Values.{stored, told}

pub step_into-stepped-requires-clause-cached : goal.step_into-stepped-requires-clause-cached
step_into-stepped-requires-clause-cached c =
    let s = c.stop_disk-disk.result in
    let runs = ran_node c.self.inside.node c.in-Some.node (stored c.self.inside.disk).now
    (sym c.take.ensures.value ∙ c.in-Some.is) c.self.invariant.1 in
    subst (λ (n : NodeValue). AreOf (Some (reads (told s).now)) n.cached)
    (sym c.deref_mut.ensures.value)
    (subst (λ (d : Disk). AreOf (Some (reads d)) c.in-Some.node.value.cached)
    (sym (armed_now c.args.stop.now.calls s (record {
      left = c.stop_disk-disk.ensures.left;
      stopped = c.stop_disk-disk.ensures.stopped;
      past = c.stop_disk-disk.ensures.past;
    }) ∙ c.stop_disk-disk.ensures.stands))
    runs.cached)

pub returns-then-stopped-clause-takes : goal.returns-then-stopped-clause-takes
returns-then-stopped-clause-takes c =
    let n = c.in-Some.node.value in
    let old = c.args.self.now in
    subst (λ (h : HostValue). HostTakes h c.put_back-stopped.new.self c.args.input c.args.now
    (Some c.args.stop.now) None)
    (had_node old c.self.inside.node c.in-Some.node (ap (λ (h : HostValue). h.node) c.self.view_is)
    (sym c.take.ensures.value ∙ c.in-Some.is))
    (λ g most pick i k saved r h. takes_until (with_node old n) c.put_back-stopped.new.self
    c.args.input c.args.now n
    c.args.stop.now c.stop_disk-disk.result c.step_into-stepped.new.store (record {
      me = sym h.node.me;
      node = refl;
      disk = sym (ap disk_of c.self.view_is) ∙ sym c.stop_disk-disk.ensures.stands;
    }) (record {
      me = c.put_back-stopped.ensures.me ∙ c.stop_disk-disk.ensures.me
          ∙ ap (λ (x : HostValue). x.me) c.self.view_is ∙ sym h.node.me;
      node = c.put_back-stopped.ensures.node;
      disk = c.put_back-stopped.ensures.stopped c.if-stopped.true;
    }) (record {
      left = c.stop_disk-disk.ensures.left;
      stopped = c.stop_disk-disk.ensures.stopped;
      past = c.stop_disk-disk.ensures.past;
    }) (sym c.put_back-stopped.ensures.came ∙ c.if-stopped.true)
    (subst (λ (m : NodeValue). TellsDisk c.args.now c.args.input m
    (Some (told c.stop_disk-disk.result)) (Some (told c.step_into-stepped.new.store)))
    c.deref_mut.ensures.value
    (either_way c.step_into-stepped.result c.step_into-stepped.ensures.brings.written
    c.step_into-stepped.ensures.brings.part))
    g most pick i k saved r h)

pub keep-requires : goal.keep-requires
keep-requires c =
    let s = c.step_into-stepped.new.store in
    let on = sym c.put_back-stopped.ensures.came ∙ c.if-stopped.false in
    record {
      up = c.in-Ok.ensures.halts.up;
      served = c.in-Ok.ensures.is_server;
      cached = subst (λ (d : Disk). AreOf (Some (reads d)) c.step_into-stepped.new.self.cached)
          (ap (λ (m : Moments). m.now) (on_told s on)
          ∙ sym (c.put_back-stopped.ensures.lifted c.if-stopped.false))
          c.step_into-stepped.ensures.cached;
    }

pub returns-in-Ok-clause-takes : goal.returns-in-Ok-clause-takes
returns-in-Ok-clause-takes c =
    let n = c.in-Some.node.value in
    let old = c.args.self.now in
    let new = c.step_into-stepped.new.self in
    let outs = c.step_into-stepped.new.outs in
    subst (λ (h : HostValue). HostTakes h c.keep.new.self c.args.input c.args.now
    (Some c.args.stop.now) (Some outs))
    (had_node old c.self.inside.node c.in-Some.node (ap (λ (h : HostValue). h.node) c.self.view_is)
    (sym c.take.ensures.value ∙ c.in-Some.is))
    (λ g most pick i k saved r h. takes_on (with_node old n) c.keep.new.self c.args.input
    c.args.now n new
    c.args.stop.now c.stop_disk-disk.result c.step_into-stepped.new.store outs (record {
      me = sym h.node.me;
      node = refl;
      disk = sym (ap disk_of c.self.view_is) ∙ sym c.stop_disk-disk.ensures.stands;
    }) (record {
      me = ap (λ (x : HostValue). x.me) c.keep.ensures
          ∙ c.put_back-stopped.ensures.me ∙ c.stop_disk-disk.ensures.me
          ∙ ap (λ (x : HostValue). x.me) c.self.view_is ∙ sym h.node.me;
      node = ap (λ (x : HostValue). x.node) c.keep.ensures;
      disk = ap disk_of c.keep.ensures ∙ c.put_back-stopped.ensures.lifted c.if-stopped.false;
    }) (record {
      left = c.stop_disk-disk.ensures.left;
      stopped = c.stop_disk-disk.ensures.stopped;
      past = c.stop_disk-disk.ensures.past;
    }) (sym c.put_back-stopped.ensures.came ∙ c.if-stopped.false)
    (subst (λ (m : NodeValue). Stepped c.args.now c.args.input m new
    (Some (told c.stop_disk-disk.result)) (Some (told c.step_into-stepped.new.store)) outs)
    c.deref_mut.ensures.value (record {
      steps = c.in-Ok.ensures.steps;
      listing = c.in-Ok.ensures.listing;
      me = c.step_into-stepped.ensures.brings.me;
      served = c.in-Ok.ensures.is_server;
      mark = c.in-Ok.ensures.brings.mark;
      written = c.in-Ok.ensures.brings.written;
    })) g most pick i k saved r h)
