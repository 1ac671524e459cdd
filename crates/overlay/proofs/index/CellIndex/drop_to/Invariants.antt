use Rattle.std.proofs.Common.{◌≤◌, ◌<◌, ◌-◌}
use Rattle.overlay.specs.Index.{IsIndexOf}
use Rattle.overlay.proofs.Dropping.{AreOut}
use Rattle.overlay.proofs.index.CellIndex.drop_to.Given as goal

-- the records so far are out
abbrev pub invariant-loop-at : goal.invariant-loop-at
invariant-loop-at g l = record {
  low : g.L.ChangeLog.base l.log ≤ l.at;
  high : g.L.ChangeLog.base l.log < l.at → l.at ≤ l.to;
  out : IsIndexOf l.fn.self (g.L.ChangeLog.base l.log) (g.L.ChangeLog.records l.log) → AreOut l.fn.self l.at l.self;
}

abbrev pub decreases-loop-at : goal.decreases-loop-at
decreases-loop-at g l = l.to - l.at
