use Rattle.world_laws.proofs.HostSteps.{steps_wait}
use Rattle.world_laws.proofs.Waits.{resting_wait}
use Rattle.world_laws.proofs.host_laws.steps_wait.Goals as goal

pub returns : goal.returns
returns c = record { wait = steps_wait; rest = resting_wait }
