use Rattle.observe_laws.proofs.Told.{shown_told}
use Rattle.observe_laws.proofs.shown_as_told.Goals as goal

pub returns : goal.returns
returns c = shown_told
