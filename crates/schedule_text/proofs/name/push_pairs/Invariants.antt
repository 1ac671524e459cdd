-- the bytes so far and those from here on are all that is read
use Rattle.std.proofs.Common.{◌≡◌, ◌≤◌, ◌-◌, length}
use Rattle.schedule_text.specs.Fields.{pairs_from}
use Rattle.schedule_text.proofs.Pairs.{Reads}
use Rattle.schedule_text.proofs.name.push_pairs.Given as goal

abbrev pub invariant-loop-k : goal.invariant-loop-k
invariant-loop-k l = record {
  reads : Reads (l.most - l._k) l.bytes l.place l.items.items (pairs_from l.most l.bytes l.fn.at);
  inside : l.place ≤ length l.bytes;
  count : length l.items.items ≡ l._k;
}
