use Rattle.world_host.proofs.Starts.{boots}
use Rattle.world_host.proofs.host.Host.boot.Goals as goal
use Rattle.world_host.specs.Starts.{HostStarts}
use Rattle.world_rules.specs.Steps.{HostBoots}
use Rattle.node.proofs.Saying.{on_ok}

pub returns-clause-boots : goal.returns-clause-boots
returns-clause-boots c =
    let old = c.args.self.now in
    let new = c.start.new.self in
    on_ok c.start.result (HostStarts old new c.args.now c.args.delta)
    (HostBoots old new c.args.now c.args.delta) c.start.ensures.starts
    (boots c.args.now c.args.delta old new c.start.ensures.me)
