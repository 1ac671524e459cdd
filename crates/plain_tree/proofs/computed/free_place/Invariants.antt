use Rattle.std.proofs.Common.{◌≡◌, drop}
use Rattle.file_tree.specs.Tree.{free_from}
use Rattle.plain_tree.proofs.computed.free_place.Given as goal

abbrev pub invariant-loop-i : goal.invariant-loop-i
invariant-loop-i l = free_from l.i (drop l.i l.slots) ≡ free_from 0 l.slots
