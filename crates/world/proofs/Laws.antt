-- What is taken from the laws of hosts and books.
use Rattle.world_laws.specs.Books.{DeedsGrow, DeliveriesGrow}
use Rattle.world_laws.specs.HostLaws.{HostsCanFail, HostsCanTake, ReachedAreWhole}
use Rattle.world_laws.specs.Sizes.{MessagesAreSized}
use Rattle.world_laws.specs.Waits.{RestingWait, StepsWait}

pub record Laws : Type 0 where
  pub whole : ReachedAreWhole
  pub can_take : HostsCanTake
  pub can_fail : HostsCanFail
  pub wait : StepsWait
  pub rest : RestingWait
  pub sized : MessagesAreSized
  pub deeds_grow : DeedsGrow
  pub deliveries_grow : DeliveriesGrow
