use Rattle.std.proofs.Common.{◌≡◌, ◌≤◌, ◌-◌, length}
use Rattle.harp_base.specs.Fields.{many_at}
use Rattle.harp_base.specs.Replies.{entry_at}
use Rattle.harp_base.proofs.ListLaws.{after_fields}
use Rattle.harp_base.proofs.reply_reading.each_at.Given as goal

abbrev pub invariant-loop : goal.invariant-loop
invariant-loop l = record {
  count : length l.entries.items ≡ l.counter;
  within : l.at ≤ length l.bytes;
  step : many_at entry_at l.count l.bytes l.fn.from
      ≡ after_fields l.entries.items (many_at entry_at (l.count - l.counter) l.bytes l.at);
}
