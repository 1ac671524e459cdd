use Rattle.std.proofs.Common.{take}
use Rattle.tree_log.specs.Applying.{AreLeftBy}
use Rattle.tree_log.proofs.applying.forget_changes.Given as goal

-- the cells of the changes so far are forgotten
abbrev pub invariant-loop-change : goal.invariant-loop-change
invariant-loop-change l = AreLeftBy (take l.change-index l.changes) l.fn.cache.entries l.cache.entries
