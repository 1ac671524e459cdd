use Rattle.file_tree.proofs.Kept.{IsWithinLimits-first}
use Rattle.plain_tree.proofs.plain.PlainTree.new.Goals as goal

pub invariant_of-result : goal.invariant_of-result
invariant_of-result c = rw c.in_ok-objects.ensures IsWithinLimits-first
