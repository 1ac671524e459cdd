use Rattle.world_laws.proofs.Trees.{trees_held}
use Rattle.world_laws.proofs.stock_laws.trees_are_held.Goals as goal

pub returns : goal.returns
returns c = record { held = trees_held }
