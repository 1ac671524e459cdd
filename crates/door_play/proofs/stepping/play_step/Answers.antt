use Rattle.std.proofs.Common.{◌++◌}
use Rattle.schedule_play.proofs.NextSteps.{is-alone}
use Rattle.door_play.proofs.Pumps.{one-read}
use Rattle.door_play.proofs.stepping.play_step.Goals as goal

pub returns-in_default : goal.returns-in_default
returns-in_default g c = record {
  ends = λ all rest before h. c.take.ensures.ends all rest before
      (one-read g.W.Stage.spellings all c.args.step rest (before ++ c.args.ear.now.heard.items)
      (g.W.Stage.stands c.args.world.now) (is-alone c.args.step c.in_default.not-Pump) h);
  clocks = c.take.ensures.clocks;
}
