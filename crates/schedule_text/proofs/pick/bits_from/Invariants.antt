-- the bits so far and those from here on are all that is read
use Rattle.std.proofs.Common.{◌≡◌, ◌+◌, ◌≤◌, ◌-◌, ◌++◌, length}
use Rattle.schedule_text.specs.Reading.{bits_from}
use Rattle.schedule_text.proofs.pick.bits_from.Given as goal

abbrev pub invariant-loop-k : goal.invariant-loop-k
invariant-loop-k l = record {
  bits : l.items.items
      ++ (bits_from (64 - l._k) l.line l.place).0 ≡ (bits_from 64 l.line l.fn.at).0;
  end : (bits_from (64 - l._k) l.line l.place).1 ≡ (bits_from 64 l.line l.fn.at).1;
  inside : l.place ≤ length l.line;
  count : length l.items.items ≡ l._k;
  counted : l.place ≡ l.fn.at + l._k;
}
