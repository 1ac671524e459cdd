-- The records that an open leader sends again.
use Rattle.std.specs.Prelude.{ℕ, ◌-◌, List, take, drop, max}
use Rattle.event_record.specs.declared.record.RecordFields.{RecordFields}
use Rattle.replica.specs.Leading.{Leading}

-- the records above an index, just as they stand in the log
abbrev pub records_after : ℕ → Leading → List RecordFields
records_after n l = drop (n - l.log.base) l.log.records

-- those above what the partner told of, at most 64
abbrev pub sent_again : Leading → List RecordFields
sent_again l = take 64 (records_after (max l.log.base l.told_top) l)
