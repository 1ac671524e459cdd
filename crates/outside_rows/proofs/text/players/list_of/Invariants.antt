-- the steps so far are in the list, and the others are left
use Rattle.std.proofs.Common.{◌≡◌, ◌++◌, length}
use Rattle.outside_rows.proofs.text.players.list_of.Given as goal

abbrev pub invariant-loop-list : goal.invariant-loop-list
invariant-loop-list l = l.list.items ++ l.steps ≡ l.fn.steps

abbrev pub decreases-loop-list : goal.decreases-loop-list
decreases-loop-list l = length l.steps
