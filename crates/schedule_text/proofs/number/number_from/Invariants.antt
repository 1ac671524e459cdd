-- the digits from here on give what all of them give
use Rattle.std.proofs.Common.{◌≡◌, ◌≤◌, drop}
use Rattle.schedule_text.specs.Fields.{number_from}
use Rattle.schedule_text.proofs.number.number_from.Given as goal

abbrev pub invariant-loop-i : goal.invariant-loop-i
invariant-loop-i l = record {
  same : number_from l.base l.most (drop l.i l.bytes) l.n l.i ≡ number_from l.base l.most
      (drop l.fn.at l.bytes) l.fn.first l.fn.at;
  within : l.n ≤ l.most;
}
