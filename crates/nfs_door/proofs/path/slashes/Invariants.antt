-- all bytes so far are slashes
use Rattle.std.proofs.Common.{◌≡◌, ℕ, ◌<◌, get_or, false}
use Rattle.nfs_door.proofs.PathLaws.{is_other}
use Rattle.nfs_door.proofs.path.slashes.Given as goal

abbrev pub invariant-loop-place : goal.invariant-loop-place
invariant-loop-place l = (k : ℕ) → k < l.place → is_other (get_or l.path k 0) ≡ false
