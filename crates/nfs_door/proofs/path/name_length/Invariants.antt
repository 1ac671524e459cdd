-- no byte so far is a slash
use Rattle.std.proofs.Common.{◌≡◌, ℕ, ◌<◌, get_or, false}
use Rattle.nfs_door.specs.Paths.{is_slash}
use Rattle.nfs_door.proofs.path.name_length.Given as goal

abbrev pub invariant-loop-place : goal.invariant-loop-place
invariant-loop-place l = (k : ℕ) → k < l.place → is_slash (get_or l.path k 0) ≡ false
