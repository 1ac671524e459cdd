use Rattle.std.proofs.Common.{◌≡◌, true, take, length}
use Rattle.power_save.proofs.seen.are_same.Given as goal

abbrev pub invariant-loop-place : goal.invariant-loop-place
invariant-loop-place l = record {
  lengths : length l.some ≡ length l.others;
  same : l.same ≡ true → take l.place l.some ≡ take l.place l.others;
}
