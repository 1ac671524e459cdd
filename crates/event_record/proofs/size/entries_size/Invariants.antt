use Rattle.std.proofs.Common.{◌≡◌, ◌+◌, ◌*◌, ◌≤◌, drop, length}
use Rattle.harp_base.specs.Fields.{many_bytes}
use Rattle.harp_base.specs.Replies.{entry_bytes}
use Rattle.event_record.proofs.size.entries_size.Given as goal

abbrev pub invariant-loop-entry : goal.invariant-loop-entry
invariant-loop-entry l = record {
  value : l.size + length (many_bytes entry_bytes (drop l.entry-index l.entries))
      ≡ length (many_bytes entry_bytes l.entries);
  bound : l.size ≤ 265 * l.entry-index;
}
