use Rattle.world_laws.proofs.Logs.{logs_right}
use Rattle.world_laws.proofs.stock_laws.logs_are_right.Goals as goal

pub returns : goal.returns
returns c = record { right = logs_right }
