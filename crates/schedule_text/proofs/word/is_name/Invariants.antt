-- the rests of two words that are as long are the same where the words are
use Rattle.std.proofs.Common.{◌≡◌, drop, length}
use Rattle.std.specs.Str.{bytes_eq}
use Rattle.schedule_text.proofs.word.is_name.Given as goal

abbrev pub invariant-loop-i : goal.invariant-loop-i
invariant-loop-i l = record {
  same : bytes_eq (drop l.i l.word) (drop l.i l.name) ≡ bytes_eq l.word l.name;
  long : length l.word ≡ length l.name;
}
