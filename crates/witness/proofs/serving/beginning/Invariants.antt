use Rattle.std.proofs.Common.{◌≡◌, ◌≤◌, ◌++◌}
use Rattle.witness.specs.Serving.{asked_for, front, one_or_more, record_size}
use Rattle.witness.proofs.serving.beginning.Given as goal

abbrev pub invariant-loop-index : goal.invariant-loop-index
invariant-loop-index g l = record {
  given : l.given.items
      ++ front record_size l.used (asked_for (g.L.Holds.log l.log) l.index l.last)
      ≡ one_or_more record_size (asked_for (g.L.Holds.log l.log) l.first l.last);
  bound : l.used ≤ 60008;
}
