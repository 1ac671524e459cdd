use Rattle.std.proofs.Common.{◌≤◌, ◌-◌, ◌+◌, length, take}
use Rattle.overlay.specs.Index.{IsIndexOf}
use Rattle.tree_log.specs.TreeLog.{changes_in}
use Rattle.tree_log.proofs.tree_log.follow.Given as goal

-- the index holds the changes of the records so far
abbrev pub invariant-loop-indexed : goal.invariant-loop-indexed
invariant-loop-indexed l = record {
  from : l.log.base ≤ l.indexed;
  to : l.indexed ≤ l.log.base + length l.log.records;
  is : IsIndexOf l.index l.log.base (take (l.indexed - l.log.base) (changes_in l.log.records));
}

abbrev pub decreases-loop-indexed : goal.decreases-loop-indexed
decreases-loop-indexed l = l.log.base + length l.log.records - l.indexed
