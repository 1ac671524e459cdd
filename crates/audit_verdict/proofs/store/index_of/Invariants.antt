use Rattle.std.proofs.Common.{◌≤◌, ◌-◌, ◌+◌, length, take}
use Rattle.overlay.specs.Index.{IsIndexOf}
use Rattle.audit_verdict.specs.Audited.{changes_of}
use Rattle.audit_verdict.proofs.store.index_of.Given as goal

-- the index holds the changes of the records so far
abbrev pub invariant-loop-at : goal.invariant-loop-at
invariant-loop-at l = record {
  from : l.log.base ≤ l.at;
  to : l.at ≤ l.log.base + length l.log.records;
  is : IsIndexOf l.index l.log.base (take (l.at - l.log.base) (changes_of l.log));
}

abbrev pub decreases-loop-at : goal.decreases-loop-at
decreases-loop-at l = l.log.base + length l.log.records - l.at
