use Rattle.std.proofs.Common.{◌≡◌, ◌<◌, ◌+◌, ◌*◌, drop}
use Rattle.std.specs.Prelude.{◌%◌, fold}
use Rattle.store_journal.specs.JournalFile.{check_sum}
use Rattle.store_journal.proofs.journal_file.check_sum.Given as goal

-- the sum so far, and then that of what is left
abbrev pub invariant-loop-byte : goal.invariant-loop-byte
invariant-loop-byte l = record {
  sum : fold (λ s b. (s * 2654435761 + b + 1) % 4294967291) l.sum (drop l.byte-index l.bytes)
      ≡ check_sum l.bytes;
  small : l.sum < 4294967291;
}
