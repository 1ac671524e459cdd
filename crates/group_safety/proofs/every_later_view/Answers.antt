use Rattle.group_safety.proofs.Safe.{run_whole}
use Rattle.group_safety.proofs.Lawful.{every_later_view, committed_survives}
use Rattle.group_safety.proofs.every_later_view.Goals as goal

pub returns : goal.returns
returns c = record {
  answered = λ size g w hs. every_later_view _ (run_whole size hs g w);
  committed = λ size g w hs. committed_survives _ (run_whole size hs g w);
}
