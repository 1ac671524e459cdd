use Rattle.std.proofs.Common.{rules}
use Rattle.file_tree.proofs.Kept.{IsWithinLimits-none}
use Rattle.plain_tree.proofs.changes.clear.Goals as goal

pub returns-then-number-len-clause-kept : goal.returns-then-number-len-clause-kept
returns-then-number-len-clause-kept c = search (rules, IsWithinLimits-none)
