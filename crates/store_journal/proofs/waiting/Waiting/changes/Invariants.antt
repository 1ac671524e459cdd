use Rattle.std.proofs.Common.{◌≡◌, ◌++◌}
use Rattle.std.specs.Prelude.{map}
use Rattle.store_journal.specs.Waiting.{changes_in}
use Rattle.store_journal.proofs.waiting.Waiting.changes.Given as goal

-- the changes so far, and then those that are left
abbrev pub invariant-loop-change : goal.invariant-loop-change
invariant-loop-change l =
    l.changes.items ++ map (λ e. e.1) l.change-iterator ≡ changes_in l.self
