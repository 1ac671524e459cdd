use Rattle.std.proofs.Common.{◌≡◌}
use Rattle.sweep.specs.Runs.{summaries}
use Rattle.sweep.proofs.runs.sweep_one.Given as goal

abbrev pub invariant-loop-run : goal.invariant-loop-run
invariant-loop-run g l =
    l.all.items ≡ summaries (g.P.Player.summary_of l.player) l.seed l.run l.lines
