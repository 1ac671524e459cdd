use Rattle.group_safety.proofs.Safe.{run_whole}
use Rattle.group_safety.proofs.Lawful.{stands_for}
use Rattle.group_safety.proofs.logs_stand_for_lists.Goals as goal

pub returns : goal.returns
returns c = record { logs = λ q size g w hs. stands_for _ (run_whole size hs g w) q }
