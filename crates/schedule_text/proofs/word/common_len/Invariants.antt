-- the bytes passed and those that the rests have in common are all that the words have
use Rattle.std.proofs.Common.{◌≡◌, ◌+◌, ◌≤◌, drop, length}
use Rattle.std.specs.Prelude.{nat_eq}
use Rattle.std.specs.List.{common_prefix_len}
use Rattle.schedule_text.proofs.word.common_len.Given as goal

abbrev pub invariant-loop-i : goal.invariant-loop-i
invariant-loop-i l = record {
  same : l.i + common_prefix_len nat_eq (drop l.i l.name) (drop l.i l.word) ≡ common_prefix_len
      nat_eq l.name l.word;
  within : l.i ≤ length l.word;
}
