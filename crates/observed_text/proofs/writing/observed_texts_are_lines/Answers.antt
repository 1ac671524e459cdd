use Rattle.observed_text.proofs.OneObserved.{one_step, one_line}
use Rattle.observed_text.proofs.writing.observed_texts_are_lines.Goals as goal

pub returns-clause-step : goal.returns-clause-step
returns-clause-step c = one_step

pub returns-clause-line : goal.returns-clause-line
returns-clause-line c = one_line
