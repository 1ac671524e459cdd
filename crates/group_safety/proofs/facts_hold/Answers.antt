use Rattle.group_safety.proofs.Safe.{first_whole, old_marks_whole, run_whole}
use Rattle.group_safety.proofs.facts_hold.Goals as goal

pub returns : goal.returns
returns c = record {
  first = first_whole;
  kept = λ size g w hs. run_whole size hs g w;
  old_marks = old_marks_whole;
}
