use Rattle.std.proofs.Common.{◌≡◌, ◌≤◌, ◌-◌, length}
use Rattle.harp_base.specs.Fields.{many_at}
use Rattle.harp_base.proofs.ListLaws.{after_fields}
use Rattle.event_record.specs.Bytes.{item_at}
use Rattle.wire.proofs.parts.each_at.Given as goal

abbrev pub invariant-loop : goal.invariant-loop
invariant-loop l = record {
  count : length l.records.items ≡ l.counter;
  within : l.at ≤ length l.bytes;
  step : many_at item_at l.count l.bytes l.fn.from
      ≡ after_fields l.records.items (many_at item_at (l.count - l.counter) l.bytes l.at);
}
