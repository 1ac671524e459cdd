use Rattle.schedule_play.proofs.NextSteps.{is-alone}
use Rattle.sweep_player.proofs.PlayLaws.{gave-pump, gave-step}
use Rattle.sweep_player.proofs.playing.take_step.Goals as goal

pub returns-in-Pump-clause-counts : goal.returns-in-Pump-clause-counts
returns-in-Pump-clause-counts g c = λ all number rest h.
    c.pump.ensures.counts all number rest
    (gave-pump g.W.Stage.spellings all number c.args.step c.in-Pump.among rest c.args.tally.now
    (g.W.Stage.stands c.args.world.now) c.in-Pump.is h)

pub returns-in_default : goal.returns-in_default
returns-in_default g c =
    let alone = is-alone c.args.step c.in_default.not-Pump in
    record {
      counts = λ all number rest h. c.take_elementary.ensures.counts all number rest
          (gave-step g.W.Stage.spellings all number c.args.step rest c.args.tally.now
          (g.W.Stage.stands c.args.world.now) alone h);
      clocks = c.take_elementary.ensures.clocks;
    }
