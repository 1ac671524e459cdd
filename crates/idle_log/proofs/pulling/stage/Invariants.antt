use Rattle.std.proofs.Common.{◌≡◌, ◌+◌, ◌≤◌, ◌++◌, length, map, true}
use Rattle.event_record.specs.Record.{entry_of}
use Rattle.group_rules.specs.Misfits.{follow}
use Rattle.volatile_log.specs.Log.{next}
use Rattle.idle_log.proofs.pulling.stage.Given as goal

-- with what is left, all is staged
abbrev pub invariant-loop-item : goal.invariant-loop-item
invariant-loop-item l = record {
  staged : record l.staged { records = l.staged.records ++ l.given.items }
      ≡ record l.initial.staged { records = l.initial.staged.records ++ l.initial.given.items };
  follow : follow (next l.staged) (map entry_of l.given.items) ≡ true;
  within : next l.staged + length l.given.items ≤ l.staged.start + 1;
}

abbrev pub decreases-loop-item : goal.decreases-loop-item
decreases-loop-item l = length l.given.items
