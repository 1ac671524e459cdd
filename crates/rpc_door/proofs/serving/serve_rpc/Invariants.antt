-- the records before this one were read and answered
use Rattle.std.proofs.Common.{◌≡◌, ℕ, ◌-◌, ◌≤◌, List, Some}
use Rattle.rpc_door.specs.Records.{bytes_left}
use Rattle.rpc_door.specs.Serving.{FaultsStay, GoesOn, faults, side}
use Rattle.rpc_door.proofs.serving.serve_rpc.Given as goal

abbrev pub invariant-loop-number : goal.invariant-loop-number
invariant-loop-number g l = record {
  goes : (input : List ℕ) → g.S.Source.left l.fn.source ≡ Some input
      → GoesOn l.cred input l.number (bytes_left l.desk.reader (g.S.Source.left l.source))
      (side (g.G.Group.told l.fn.group) (g.G.Group.unanswered l.fn.group) (g.K.Sink.written l.fn.sink))
      (side (g.G.Group.told l.group) (g.G.Group.unanswered l.group) (g.K.Sink.written l.sink));
  runs : g.G.Group.runs l.group;
  some : 1 ≤ l.number;
  few : l.number ≤ 1048576;
  stay : FaultsStay
      (faults (g.S.Source.faults l.fn.source) (g.K.Sink.faults l.fn.sink) (g.G.Group.counts l.fn.group))
      (faults (g.S.Source.faults l.source) (g.K.Sink.faults l.sink) (g.G.Group.counts l.group));
  on : (o : g.G.Group.Basis) → g.G.Group.on l.fn.group o → g.G.Group.on l.group o;
}

abbrev pub decreases-loop-number : goal.decreases-loop-number
decreases-loop-number g l = 1048577 - l.number
