-- the steps so far were taken and their lines counted, and the others are left
use Rattle.std.proofs.Common.{◌≤◌, ◌+◌, length}
use Rattle.group_trace.specs.DiskCalls.{measures_of}
use Rattle.schedule_play.specs.OnTheWay.{AreBelow}
use Rattle.sweep_player.specs.OnTheWay.{HasCounted}
use Rattle.sweep_player.specs.Reading.{steps_read, steps_read_from}
use Rattle.sweep_player.proofs.playing.summary_over.Given as goal

abbrev pub invariant-loop-lines : goal.invariant-loop-lines
invariant-loop-lines g l = record {
  counted : HasCounted g.W.Stage.spellings
      (steps_read (measures_of g.W.Stage.spellings) l.fn.steps)
      (steps_read_from (measures_of g.W.Stage.spellings) (l.before + 1) l.steps) l.tally
      (g.W.Stage.stands l.world);
  below : AreBelow (l.before + 1) (g.W.Stage.clocks l.world);
  within : l.before ≤ 50000;
}

abbrev pub decreases-loop-lines : goal.decreases-loop-lines
decreases-loop-lines g l = length l.steps
