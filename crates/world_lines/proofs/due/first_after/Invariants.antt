use Rattle.std.proofs.Common.{◌≡◌, drop}
use Rattle.world_lines.specs.Due.{first_from, goes}
use Rattle.world_lines.proofs.due.first_after.Given as goal

abbrev pub invariant-loop-n : goal.invariant-loop-n
invariant-loop-n l = first_from (goes l.from l.to) l.n (drop l.n l.kept)
    ≡ first_from (goes l.from l.to) l.start (drop l.start l.kept)
