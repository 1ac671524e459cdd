-- some wants and takes were made, and those of a shorter drain are left
use Rattle.std.proofs.Common.{◌≡◌, ◌≤◌, ◌-◌, ℕ, List, Option}
use Rattle.group_trace.specs.DiskCalls.{measures_of}
use Rattle.observe_laws.specs.Reading.{ObservedReading}
use Rattle.observe_laws.specs.Scene.{ObservedScene}
use Rattle.observe_play.specs.OnTheWay.{HasObserved, with_drain}
use Rattle.observe_play.proofs.acting.drain.Given as goal

abbrev pub invariant-loop : goal.invariant-loop
invariant-loop g l = record {
  come : (all : ObservedReading) (rest : ObservedScene → ObservedReading)
      (before : Option (List ℕ))
      → HasObserved g.W.Stage.spellings all
      (with_drain (measures_of g.W.Stage.spellings) l.number l.count l.server rest) before
      (g.K.Sink.written l.fn.sink) (g.W.Stage.stands l.fn.world) l.fn.watch
      → HasObserved g.W.Stage.spellings all
      (with_drain (measures_of g.W.Stage.spellings) l.number (l.count - l.counter) l.server rest)
      before (g.K.Sink.written l.sink) (g.W.Stage.stands l.world) l.watch;
  clocks : g.W.Stage.clocks l.world ≡ g.W.Stage.clocks l.fn.world;
  count : g.K.Sink.faults l.fn.sink ≤ g.K.Sink.faults l.sink;
}
