-- some deliveries were made, and those of a shorter pump are left
use Rattle.std.proofs.Common.{◌≡◌, ◌≤◌, ◌-◌, ℕ, List, Option}
use Rattle.group_trace.specs.DiskCalls.{measures_of}
use Rattle.group_trace.specs.Pump.{most_deliveries}
use Rattle.observe_laws.specs.Reading.{ObservedReading}
use Rattle.observe_laws.specs.Scene.{ObservedScene}
use Rattle.observe_play.specs.OnTheWay.{HasObserved, with_deliveries}
use Rattle.observe_play.specs.Watch.{WatchValue}
use Rattle.observe_play.proofs.stepping.pump.Given as goal

abbrev pub invariant-loop : goal.invariant-loop
invariant-loop g l = record {
  come : (x : WatchValue) (all : ObservedReading) (rest : ObservedScene → ObservedReading)
      (before : Option (List ℕ))
      → HasObserved g.W.Stage.spellings all
      (with_deliveries (measures_of g.W.Stage.spellings) l.number most_deliveries l.among rest)
      before (g.K.Sink.written l.fn.sink) (g.W.Stage.stands l.fn.world) x
      → HasObserved g.W.Stage.spellings all
      (with_deliveries (measures_of g.W.Stage.spellings) l.number (most_deliveries - l.counter)
      l.among rest) before (g.K.Sink.written l.sink) (g.W.Stage.stands l.world) x;
  clocks : g.W.Stage.clocks l.world ≡ g.W.Stage.clocks l.fn.world;
  count : g.K.Sink.faults l.fn.sink ≤ g.K.Sink.faults l.sink;
}
