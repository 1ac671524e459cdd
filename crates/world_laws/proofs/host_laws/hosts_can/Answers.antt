use Rattle.world_laws.proofs.Hosts.{can_fail, can_take, reached_whole}
use Rattle.world_laws.proofs.host_laws.hosts_can.Goals as goal

pub returns : goal.returns
returns c = record { whole = reached_whole; take = can_take; fail = can_fail }
