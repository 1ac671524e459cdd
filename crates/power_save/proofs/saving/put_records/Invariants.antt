use Rattle.std.proofs.Common.{◌≡◌, ◌≤◌, ◌<◌, ◌-◌, ℕ, length, take}
use Rattle.std.specs.Prelude.{slice_index_or}
use Rattle.event_record.specs.Bytes.{RecordFits}
use Rattle.event_record.specs.declared.record.RecordFields.{RecordFields}
use Rattle.harp_store.specs.Disk.{after_changes}
use Rattle.power_save.specs.Saved.{puts_of}
use Rattle.power_save.proofs.saving.put_records.Given as goal

-- the records so far are put, and their fields keep their bounds
abbrev pub invariant-loop-n : goal.invariant-loop-n
invariant-loop-n g l = record {
  all : l.count ≡ length l.log.records;
  to : l.n ≤ l.count;
  told : g.D.Store.told l.store ≡ after_changes (take l.n (puts_of l.log.records))
      (g.D.Store.told l.initial.store);
  fits : (k : ℕ) (d : RecordFields) → k < l.n → RecordFits (slice_index_or l.log.records k d);
  count : g.D.Store.faults l.initial.store ≤ g.D.Store.faults l.store;
}

abbrev pub decreases-loop-n : goal.decreases-loop-n
decreases-loop-n g l = l.count - l.n
