use Rattle.std.proofs.Common.{◌≤◌, ◌-◌, length}
use Rattle.store_journal.proofs.FrameLaws.{TakesTo}
use Rattle.store_journal.proofs.journal_file.take_up.Given as goal

-- the entries so far wait
abbrev pub invariant-loop-next : goal.invariant-loop-next
invariant-loop-next l = record {
  within : l.at ≤ length l.bytes;
  taken : TakesTo l.bytes l.at l.initial.waiting l.waiting;
}

abbrev pub decreases-loop-next : goal.decreases-loop-next
decreases-loop-next l = length l.bytes - l.at
