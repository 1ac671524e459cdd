use Rattle.group_safety.proofs.Safe.{run_whole}
use Rattle.group_safety.proofs.no_stale_fields.Goals as goal

pub returns : goal.returns
returns c = record { tidy = λ size g w hs. (run_whole size hs g w).tidy }
