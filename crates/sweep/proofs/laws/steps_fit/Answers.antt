use Rattle.sweep.proofs.StepsFit.{generated-fits}
use Rattle.sweep.proofs.laws.steps_fit.Goals as goal

pub returns : goal.returns
returns c = generated-fits
