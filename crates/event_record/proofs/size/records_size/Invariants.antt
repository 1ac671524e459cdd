use Rattle.std.proofs.Common.{◌≡◌, ◌+◌, ◌*◌, ◌≤◌, drop, length}
use Rattle.harp_base.specs.Fields.{many_bytes}
use Rattle.event_record.specs.Bytes.{record_bytes}
use Rattle.event_record.proofs.size.records_size.Given as goal

abbrev pub invariant-loop-record : goal.invariant-loop-record
invariant-loop-record l = record {
  value : l.size + length (many_bytes record_bytes (drop l.record-index l.records))
      ≡ length (many_bytes record_bytes l.records);
  bound : l.size ≤ 60008 * l.record-index;
}
