use Rattle.std.proofs.Common.{◌≤◌, ◌-◌}
use Rattle.applier.specs.Applied.{changes_between}
use Rattle.tree_log.specs.Applying.{AreLeftBy}
use Rattle.tree_log.specs.TreeLog.{changes_in}
use Rattle.tree_log.proofs.applying.forget_records.Given as goal

-- the cells of the records so far are forgotten
abbrev pub invariant-loop-at : goal.invariant-loop-at
invariant-loop-at l = record {
  from : l.from ≤ l.at;
  to : l.at ≤ l.to;
  left : AreLeftBy (changes_between l.log.base (changes_in l.log.records) l.from l.at)
      l.initial.cache.entries l.cache.entries;
}

abbrev pub decreases-loop-at : goal.decreases-loop-at
decreases-loop-at l = l.to - l.at
