use Rattle.accept_laws.proofs.Rules.{steps_walk}
use Rattle.accept_laws.proofs.move_bounds.step_walks.Goals as goal

pub returns : goal.returns
returns c = record { moves = steps_walk }
