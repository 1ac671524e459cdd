use Rattle.accept_laws.proofs.Calls.{calls_fit}
use Rattle.accept_laws.proofs.tree_bounds.tree_fits.Goals as goal

pub returns : goal.returns
returns c = record { calls = calls_fit }
