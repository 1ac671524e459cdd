use Rattle.std.proofs.Common.{◌≡◌}
use Rattle.harp_types.specs.Trio.{value_of}
use Rattle.harp_types.specs.declared.server.ServerId.{ServerId as Place}
use Rattle.node_link.specs.Memory.{waiting_at}
use Rattle.node_link.proofs.queues.Queues.of.Given as goal

-- what was given so far is in its queues
abbrev pub invariant-loop-one : goal.invariant-loop-one
invariant-loop-one l = (place : Place) → value_of l.queues place ≡ waiting_at place l.yielded
