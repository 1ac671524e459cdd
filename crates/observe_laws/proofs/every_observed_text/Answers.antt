use Rattle.observe_laws.proofs.Texts.{observed_rightly}
use Rattle.observe_laws.proofs.every_observed_text.Goals as goal

pub returns : goal.returns
returns c = observed_rightly
