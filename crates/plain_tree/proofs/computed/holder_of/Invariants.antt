use Rattle.std.proofs.Common.{◌≡◌, drop}
use Rattle.file_tree.specs.Tree.{holder_from}
use Rattle.plain_tree.proofs.computed.holder_of.Given as goal

abbrev pub invariant-loop-i : goal.invariant-loop-i
invariant-loop-i l =
    holder_from l.i (drop l.i l.tree) l.number l.found ≡ holder_from 0 l.tree l.number 0
