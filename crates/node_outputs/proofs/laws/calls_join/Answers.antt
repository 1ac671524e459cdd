use Rattle.node_outputs.proofs.Makes.{makes_then}
use Rattle.node_outputs.proofs.laws.calls_join.Goals as goal

pub returns : goal.returns
returns c = makes_then
