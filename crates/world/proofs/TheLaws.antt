-- The laws of hosts and books.
use Rattle.world_laws.proofs.Growth.{deeds_grow, deliveries_grow}
use Rattle.world_laws.proofs.Hosts.{can_fail, can_take, reached_whole}
use Rattle.world_laws.proofs.Sized.{messages_sized}
use Rattle.world_laws.proofs.HostSteps.{steps_wait}
use Rattle.world_laws.proofs.Waits.{resting_wait}
use Rattle.world.proofs.Laws.{Laws}

pub the_laws : Laws
the_laws = record {
  whole = reached_whole;
  can_take = can_take;
  can_fail = can_fail;
  wait = steps_wait;
  rest = resting_wait;
  sized = messages_sized;
  deeds_grow = deeds_grow;
  deliveries_grow = deliveries_grow;
}
