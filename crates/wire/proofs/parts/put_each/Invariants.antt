use Rattle.std.proofs.Common.{◌≡◌, ◌++◌, drop}
use Rattle.harp_base.specs.Fields.{many_bytes, AllFit}
use Rattle.event_record.specs.Bytes.{RecordFits, record_bytes}
use Rattle.wire.proofs.parts.put_each.Given as goal

abbrev pub invariant-loop-item : goal.invariant-loop-item
invariant-loop-item l = record {
  value : l.out.items ++ many_bytes record_bytes (drop l.item-index l.records)
      ≡ l.initial.out.items ++ many_bytes record_bytes l.records;
  fits : AllFit RecordFits (drop l.item-index l.records) → AllFit RecordFits l.records;
}
