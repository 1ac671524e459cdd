use Rattle.running_laws.proofs.First.{histories_are_runs}
use Rattle.running_laws.proofs.histories_are_runs.Goals as goal

pub returns : goal.returns
returns c = record { runs = histories_are_runs }
