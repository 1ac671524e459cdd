use Rattle.std.proofs.Common.{drop}
use Rattle.harp_base.specs.Fields.{AllFit}
use Rattle.tree_log.specs.Sizes.{IsShortChange}
use Rattle.tree_log.proofs.parts.changes_are_short.Given as goal

-- where those that are left are short, all are
abbrev pub invariant-loop-change : goal.invariant-loop-change
invariant-loop-change l =
    AllFit IsShortChange (drop l.change-index l.changes) → AllFit IsShortChange l.changes
