-- some deliveries were made and their lines counted, and those of a shorter pump are left
use Rattle.std.proofs.Common.{◌≡◌, ◌-◌, ℕ}
use Rattle.group_trace.specs.DiskCalls.{measures_of}
use Rattle.group_trace.specs.Pump.{most_deliveries}
use Rattle.group_trace.specs.Scene.{Scene}
use Rattle.schedule_play.specs.OnTheWay.{with_pump}
use Rattle.schedule_play.specs.Reading.{Reading}
use Rattle.sweep_player.specs.OnTheWay.{HasCounted}
use Rattle.sweep_player.proofs.playing.pump.Given as goal

abbrev pub invariant-loop : goal.invariant-loop
invariant-loop g l = record {
  counted : (all : Reading) (number : ℕ) (rest : Scene → Reading)
      → HasCounted g.W.Stage.spellings all
      (with_pump (measures_of g.W.Stage.spellings) number most_deliveries l.among rest)
      l.fn.tally (g.W.Stage.stands l.fn.world)
      → HasCounted g.W.Stage.spellings all
      (with_pump (measures_of g.W.Stage.spellings) number (most_deliveries - l.counter) l.among
      rest) l.tally (g.W.Stage.stands l.world);
  clocks : g.W.Stage.clocks l.world ≡ g.W.Stage.clocks l.fn.world;
}
