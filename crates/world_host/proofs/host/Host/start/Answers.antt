use Rattle.std.proofs.Common.{Some, ap, refl, sym, ◌∙◌}
use Rattle.world_host.proofs.Starts.{start_at}
use Rattle.world_host.proofs.host.Host.start.Goals as goal
use Rattle.harp_store.specs.Disk.{Moments}
use Rattle.world_rules.specs.Host.{HostValue, disk_of}
use Rattle.node.specs.Node.{NodeValue}
use Rattle.harp_store.specs.Values.{stored}

pub returns-in_ok-new-in-Ok-clause-starts : goal.returns-in_ok-new-in-Ok-clause-starts
returns-in_ok-new-in-Ok-clause-starts c =
    let same = c.self.view_is ∙ c.fall.ensures in
    let h = stored c.self.inside.disk in
    let left = stored c.boot-booted.new.store in
    start_at c.self.inside.me c.args.now c.args.delta c.in-Ok.node h left c.args.self.now
    c.keep.new.self (sym (ap (λ (x : HostValue). x.me) same)) (sym (ap disk_of same))
    (ap (λ (x : HostValue). x.node) c.keep.ensures
    ∙ ap (λ (n : NodeValue). Some n) c.in_ok-new-in-Ok.ensures.ok)
    (ap disk_of c.keep.ensures ∙ ap (λ (m : Moments). m.now) c.settle.ensures) (record {
      boots = λ items held. c.in-Ok.ensures.boots h items refl held;
      records = λ saved held. c.in-Ok.ensures.records h saved refl held;
      me = c.in-Ok.ensures.fresh.me;
      served = c.in-Ok.ensures.fresh.is_server;
      mark = λ base. c.in-Ok.ensures.mark h refl base;
      written = c.in-Ok.ensures.disk.written;
    })
