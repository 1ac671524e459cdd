-- what was added, and what is left
use Rattle.std.proofs.Common.{◌≡◌, ◌≤◌, ◌+◌, ◌*◌, ◌^◌, drop}
use Rattle.sweep.specs.Texts.{total}
use Rattle.sweep.proofs.summaries.Count.total.Given as goal

abbrev pub invariant-loop-summary : goal.invariant-loop-summary
invariant-loop-summary l =
    (l.total + total l.self (drop l.summary-index l.all) ≡ total l.self l.all)
    × (l.total ≤ l.summary-index * 2 ^ 64)
