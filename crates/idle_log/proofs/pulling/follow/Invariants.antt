use Rattle.std.proofs.Common.{◌≡◌, drop, map}
use Rattle.event_record.specs.Record.{entry_of}
use Rattle.group_rules.specs.Misfits.{follow}
use Rattle.idle_log.proofs.pulling.follow.Given as goal

-- what is left is all
abbrev pub invariant-loop-item : goal.invariant-loop-item
invariant-loop-item l = follow l.next (map entry_of (drop l.item-index l.records))
    ≡ follow l.first (map entry_of l.records)
