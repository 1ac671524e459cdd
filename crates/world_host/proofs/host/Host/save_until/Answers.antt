use Rattle.std.proofs.Common.{refl, sym, ◌∙◌}
use Rattle.world_host.proofs.UntilStops.{fails_on, fails_until}
use Rattle.world_host.proofs.host.Host.save_until.Goals as goal
use Rattle.world_rules.specs.Host.{with_node}

pub returns-then-stopped-clause-fails : goal.returns-then-stopped-clause-fails
returns-then-stopped-clause-fails c g most pick k saved r h =
    let n = c.args.node in
    fails_until (with_node c.args.self.now n) c.put_back-stopped.new.self n c.args.stop.now
    c.stop_disk-disk.result c.power-saved.new.store (record {
      me = sym h.node.me;
      node = refl;
      disk = sym c.stop_disk-disk.ensures.stands;
    }) (record {
      me = c.put_back-stopped.ensures.me ∙ c.stop_disk-disk.ensures.me ∙ sym h.node.me;
      node = c.put_back-stopped.ensures.node;
      disk = c.put_back-stopped.ensures.stopped c.if-stopped.true;
    }) (record {
      left = c.stop_disk-disk.ensures.left;
      stopped = c.stop_disk-disk.ensures.stopped;
      past = c.stop_disk-disk.ensures.past;
    }) (sym c.put_back-stopped.ensures.came ∙ c.if-stopped.true) (record {
      machine = c.power-saved.ensures.machine;
      moments = λ e. c.power-saved.ensures.moments c.requires.runs.up e;
      kept = c.power-saved.ensures.kept;
    }) g most pick k saved r h

pub returns-in-Ok-clause-fails : goal.returns-in-Ok-clause-fails
returns-in-Ok-clause-fails c g most pick k saved r h =
    let n = c.args.node in
    fails_on (with_node c.args.self.now n) c.put_back-stopped.new.self n c.args.stop.now
    c.stop_disk-disk.result c.power-saved.new.store (record {
      me = sym h.node.me;
      node = refl;
      disk = sym c.stop_disk-disk.ensures.stands;
    }) (record {
      me = c.put_back-stopped.ensures.me ∙ c.stop_disk-disk.ensures.me ∙ sym h.node.me;
      node = c.put_back-stopped.ensures.node;
      disk = c.put_back-stopped.ensures.lifted c.if-stopped.false;
    }) (record {
      left = c.stop_disk-disk.ensures.left;
      stopped = c.stop_disk-disk.ensures.stopped;
      past = c.stop_disk-disk.ensures.past;
    }) (sym c.put_back-stopped.ensures.came ∙ c.if-stopped.false) (record {
      powered = record {
        machine = c.power-saved.ensures.machine;
        moments = λ e. c.power-saved.ensures.moments c.requires.runs.up e;
        kept = c.power-saved.ensures.kept;
      };
      saved = c.in-Ok.ensures.saved;
    }) g most pick k saved r h
