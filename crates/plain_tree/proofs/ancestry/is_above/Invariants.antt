use Rattle.std.proofs.Common.{◌≡◌, ◌-◌, length}
use Rattle.file_tree.specs.Rename.{is_above}
use Rattle.plain_tree.proofs.ancestry.is_above.Given as goal

abbrev pub invariant-loop : goal.invariant-loop
invariant-loop l =
    is_above (length l.tree - l.counter) l.tree l.top l.at
    ≡ is_above (length l.tree) l.tree l.top l.dir
