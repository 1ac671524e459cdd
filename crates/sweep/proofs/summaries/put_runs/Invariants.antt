use Rattle.std.proofs.Common.{◌≡◌, ◌++◌, ◌+◌, drop}
use Rattle.sweep.specs.Texts.{runs_text}
use Rattle.sweep.proofs.summaries.put_runs.Given as goal

abbrev pub invariant-loop-run : goal.invariant-loop-run
invariant-loop-run l =
    l.out.items ++ runs_text (l.seed + l.run) (drop l.run l.all)
    ≡ l.fn.out.items ++ runs_text l.seed l.all
