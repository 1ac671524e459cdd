use Rattle.group_safety.proofs.Safe.{run_whole}
use Rattle.group_safety.proofs.Lawful.{reads_alone}
use Rattle.group_safety.proofs.exclusive_reading.Goals as goal

pub returns : goal.returns
returns c = record { alone = λ size g w hs. reads_alone _ (run_whole size hs g w) }
