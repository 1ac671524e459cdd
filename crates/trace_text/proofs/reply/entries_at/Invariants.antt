-- the entries so far, and then those from here on, are all that is read
use Rattle.std.proofs.Common.{◌≡◌, ◌≤◌, ◌-◌, length}
use Rattle.trace_text.specs.Replies.{entries_at}
use Rattle.trace_text.proofs.Turns.{after_entries}
use Rattle.trace_text.proofs.reply.entries_at.Given as goal

abbrev pub invariant-loop-k : goal.invariant-loop-k
invariant-loop-k l = record {
  count : length l.entries.items ≡ l._k;
  within : l.at ≤ length l.line;
  step : entries_at 65535 l.line l.fn.from
      ≡ after_entries l.entries.items (entries_at (65535 - l._k) l.line l.at);
}
