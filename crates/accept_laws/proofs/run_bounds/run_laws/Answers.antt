use Rattle.accept_laws.proofs.Runs.{books_few, runs_fit}
use Rattle.accept_laws.proofs.run_bounds.run_laws.Goals as goal

pub returns : goal.returns
returns c = record { fit = runs_fit; few = books_few }
