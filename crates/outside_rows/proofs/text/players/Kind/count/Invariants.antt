-- what was counted, and what is left
use Rattle.std.proofs.Common.{◌≡◌, ◌≤◌, ◌+◌, drop}
use Rattle.outside_rows.specs.Players.{count_of}
use Rattle.outside_rows.proofs.text.players.Kind.count.Given as goal

abbrev pub invariant-loop-step : goal.invariant-loop-step
invariant-loop-step l =
    (l.count + count_of l.self (drop l.step-index l.steps) ≡ count_of l.self l.steps)
    × (l.count ≤ l.step-index)
