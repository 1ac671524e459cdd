use Rattle.std.proofs.Common.{◌≡◌, ◌≤◌, take}
use Rattle.applier.specs.Applied.{after_changes}
use Rattle.applier.proofs.make_changes.Given as goal

-- the changes so far are made
abbrev pub invariant-loop-change : goal.invariant-loop-change
invariant-loop-change g l = record {
  told : g.D.Store.told l.store ≡ after_changes (take l.change-index l.changes)
      (g.D.Store.told l.initial.store);
  count : g.D.Store.faults l.initial.store ≤ g.D.Store.faults l.store;
}
