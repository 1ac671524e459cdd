-- as long as each byte was a digit, the bytes so far and those from here on are all that is read
use Rattle.std.proofs.Common.{◌≡◌, ◌<◌, ◌+◌, ◌-◌, ◌*◌, length, take}
use Rattle.schedule_text.specs.Fields.{pairs_from}
use Rattle.schedule_text.proofs.Pairs.{Reads}
use Rattle.schedule_text.proofs.name.fill_from.Given as goal

abbrev pub invariant-loop-i : goal.invariant-loop-i
invariant-loop-i l = record {
  reads : l.greatest < 16 → Reads (length l.fn.items - l.i) l.bytes (l.at + 2 * l.i)
      (take l.i l.items) (pairs_from (length l.fn.items) l.bytes l.at);
  count : length l.items ≡ length l.fn.items;
}
