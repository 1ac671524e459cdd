use Rattle.trace_laws.proofs.MarkLaws.{cut_writes_no_mark, marks_once}
use Rattle.trace_laws.proofs.one_mark.Goals as goal

pub returns : goal.returns
returns c = record { last = marks_once; cut = cut_writes_no_mark }
