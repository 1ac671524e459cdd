use Rattle.std.proofs.Common.{◌≡◌, drop}
use Rattle.file_tree.specs.Tree.{entry_from}
use Rattle.plain_tree.proofs.computed.entry.Given as goal

abbrev pub invariant-loop-i : goal.invariant-loop-i
invariant-loop-i l = entry_from l.i (drop l.i l.slots) l.name ≡ entry_from 0 l.slots l.name
