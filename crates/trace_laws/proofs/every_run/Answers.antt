use Rattle.trace_laws.proofs.RightRuns.{run_right}
use Rattle.trace_laws.proofs.FirstParts.{first_parts_right}
use Rattle.trace_laws.proofs.every_run.Goals as goal

pub returns : goal.returns
returns c = record { right = run_right; first_parts = first_parts_right }
