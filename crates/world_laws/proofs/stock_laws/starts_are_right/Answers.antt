use Rattle.world_laws.proofs.Starts.{starts_right}
use Rattle.world_laws.proofs.stock_laws.starts_are_right.Goals as goal

pub returns : goal.returns
returns c = record { start = starts_right }
