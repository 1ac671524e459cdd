use Rattle.group_safety.proofs.Safe.{run_whole}
use Rattle.group_safety.proofs.Lawful.{bases_on_both_disks}
use Rattle.group_safety.proofs.bases_on_both_disks.Goals as goal

pub returns : goal.returns
returns c = record { bases = λ size g w hs. bases_on_both_disks _ (run_whole size hs g w) }
