use Rattle.std.proofs.Common.{None, Result, ap, refl, subst, sym, ◌∙◌}
use Rattle.world_host.proofs.Saves.{PoweredWell, save_fails}
use Rattle.world_host.proofs.host.Host.save.Goals as goal
use Rattle.world_host.proofs.host.Host.save.Goals.{in-Ok, in-Err-NoMemory}
use Rattle.group_rules.specs.Names.{place_of}
use Rattle.harp_store.specs.Disk.{Moments}
use Rattle.world_rules.specs.Host.{HostValue, disk_of, listed, with_node}
use Rattle.world_rules.specs.Steps.{HostFails}
use Rattle.std.specs.Prelude.{OnOk, Some, option_map}
use Rattle.std.specs.declared.alloc.AllocError.{AllocError}
use Rattle.harp_store.specs.Values.{stored}

pub returns-clause-fails : goal.returns-clause-fails
returns-clause-fails c =
    let n = c.args.node in
    let old = with_node c.args.self.now n in
    let before = stored c.self.inside.disk in
    let left = stored c.power-saved.new.store in
    let new : HostValue = record {
      me = place_of c.self.inside.me;
      node = option_map (λ b. b.value) c.self.inside.node;
      disk = listed c.settle.new.self;
    } in
    let fails : PoweredWell n (Some before) (Some left) → HostFails old new None =
    λ p g most pick k saved r h. save_fails old new n before left (record {
      me = sym h.node.me;
      node = refl;
      disk = sym (ap disk_of c.self.view_is);
    }) (record {
      me = ap (λ (x : HostValue). x.me) c.self.view_is ∙ sym h.node.me;
      node = ap (λ (x : HostValue). x.node) c.self.view_is ∙ c.requires.down;
      disk = ap (λ (m : Moments). m.now) c.settle.ensures;
    }) p g most pick k saved r h in
    elim c.match-saved.branch [
      | in-Ok w ↦ subst (λ (x : Result (Unit {0}) AllocError). OnOk x (HostFails old new None))
          (sym w.result-is) (fails (record {
            powered = record {
              machine = c.power-saved.ensures.machine;
              moments = λ e. c.power-saved.ensures.moments c.requires.runs.up e;
              kept = c.power-saved.ensures.kept;
            };
            saved = w.in-Ok.ensures.saved;
          }))
      | in-Err-NoMemory w ↦ subst (λ (x : Result (Unit {0}) AllocError).
          OnOk x (HostFails old new None)) (sym w.result-is) tt
    ]
