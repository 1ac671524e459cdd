use Rattle.text_writer.proofs.OneStepLine.{step_line, trace_line}
use Rattle.text_writer.proofs.writing.texts_are_lines.Goals as goal

pub returns-clause-step : goal.returns-clause-step
returns-clause-step c = step_line

pub returns-clause-line : goal.returns-clause-line
returns-clause-line c = trace_line
