-- the bytes passed and the word's bytes from here on are the word's
use Rattle.std.proofs.Common.{◌≡◌, ◌+◌, drop}
use Rattle.std.specs.List.{prefix_len}
use Rattle.schedule_text.specs.Fields.{not_space}
use Rattle.schedule_text.proofs.number.word_len.Given as goal

abbrev pub invariant-loop-i : goal.invariant-loop-i
invariant-loop-i l = l.i + prefix_len not_space (drop l.i l.bytes) ≡ prefix_len not_space l.bytes
