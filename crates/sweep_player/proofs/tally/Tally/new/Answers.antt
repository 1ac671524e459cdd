use Rattle.sweep_player.proofs.TallyLaws.{tally-first}
use Rattle.sweep_player.proofs.tally.Tally.new.Goals as goal

pub returns : goal.returns
returns c = tally-first
