use Rattle.group_safety.proofs.Lawful.{run_grows}
use Rattle.group_safety.proofs.history_grows.Goals as goal

pub returns : goal.returns
returns c = record { grows = λ size g w hs. run_grows size hs g w }
