use Rattle.observer.proofs.Growth.{books_go_on, shown_stays_true, tops_never_fall}
use Rattle.observer.proofs.laws.observer_laws.Goals as goal

pub returns : goal.returns
returns c = record { grown = books_go_on; shown = shown_stays_true; tops = tops_never_fall }
