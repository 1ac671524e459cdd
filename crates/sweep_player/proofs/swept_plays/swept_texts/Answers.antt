use Rattle.sweep_player.proofs.Readings.{steps_are_read}
use Rattle.sweep_player.proofs.Swept.{generated_short, sweeps_count_plays}
use Rattle.sweep_player.proofs.swept_plays.swept_texts.Goals as goal

pub returns : goal.returns
returns c = record {
  read = steps_are_read;
  short = generated_short c.steps_fit.ensures;
  counts = sweeps_count_plays c.steps_fit.ensures;
}
