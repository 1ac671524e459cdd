use Rattle.group_safety.proofs.Safe.{run_whole}
use Rattle.group_safety.proofs.Lawful.{within_limits}
use Rattle.group_safety.proofs.limits.Goals as goal

pub returns : goal.returns
returns c = record { within = λ size g w hs. within_limits _ (run_whole size hs g w) }
