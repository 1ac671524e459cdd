-- some deliveries were made, and those of a shorter pump are left
use Rattle.std.proofs.Common.{◌≡◌, ◌≤◌, ◌-◌, ℕ, List, Option}
use Rattle.group_trace.specs.DiskCalls.{measures_of}
use Rattle.group_trace.specs.Pump.{most_deliveries}
use Rattle.group_trace.specs.Scene.{Scene}
use Rattle.schedule_play.specs.OnTheWay.{HasCome, with_pump}
use Rattle.schedule_play.specs.Reading.{Reading}
use Rattle.schedule_play.proofs.step.pump.Given as goal

abbrev pub invariant-loop : goal.invariant-loop
invariant-loop g l = record {
  come : (all : Reading) (rest : Scene → Reading) (before : Option (List ℕ))
      → HasCome g.W.Stage.spellings all
      (with_pump (measures_of g.W.Stage.spellings) l.number most_deliveries l.among rest) before
      (g.K.Sink.written l.fn.sink) (g.W.Stage.stands l.fn.world)
      → HasCome g.W.Stage.spellings all
      (with_pump (measures_of g.W.Stage.spellings) l.number (most_deliveries - l.counter) l.among
      rest) before (g.K.Sink.written l.sink) (g.W.Stage.stands l.world);
  clocks : g.W.Stage.clocks l.world ≡ g.W.Stage.clocks l.fn.world;
  count : g.K.Sink.faults l.fn.sink ≤ g.K.Sink.faults l.sink;
}
