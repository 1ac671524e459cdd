use Rattle.std.proofs.Common.{◌≡◌, ◌≤◌, ◌-◌}
use Rattle.applier.specs.Applied.{after_changes, changes_between}
use Rattle.applier.proofs.apply_records.Given as goal

-- the records so far are applied
abbrev pub invariant-loop-at : goal.invariant-loop-at
invariant-loop-at g l = record {
  from : l.from ≤ l.at;
  to : l.at ≤ l.to;
  told : g.D.Store.told l.store ≡ after_changes (changes_between (g.L.ChangeLog.base l.log)
      (g.L.ChangeLog.records l.log) l.from l.at) (g.D.Store.told l.initial.store);
  count : g.D.Store.faults l.initial.store ≤ g.D.Store.faults l.store;
}

abbrev pub decreases-loop-at : goal.decreases-loop-at
decreases-loop-at g l = l.to - l.at
