use Rattle.trace_laws.proofs.StopLaws.{makes_no_call}
use Rattle.trace_laws.proofs.never_cut.Goals as goal

pub returns : goal.returns
returns c = record { calls = makes_no_call }
