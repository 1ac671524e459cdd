use Rattle.group_safety.proofs.Safe.{run_whole}
use Rattle.group_safety.proofs.Lawful.{one_book}
use Rattle.group_safety.proofs.one_book.Goals as goal

pub returns : goal.returns
returns c = record { book = λ size g w hs. one_book _ (run_whole size hs g w) }
