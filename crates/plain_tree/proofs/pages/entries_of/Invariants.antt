use Rattle.std.proofs.Common.{◌≡◌, ◌++◌, ◌+◌, drop}
use Rattle.file_tree.specs.Outcome.{entries_from, entries_of}
use Rattle.plain_tree.proofs.pages.entries_of.Given as goal

abbrev pub invariant-loop-i : goal.invariant-loop-i
invariant-loop-i l =
    l.entries.items ++ entries_from (l.i + 3) (drop l.i l.slots) ≡ entries_of l.tree l.dir l.slots
