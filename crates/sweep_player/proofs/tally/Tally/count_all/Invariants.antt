use Rattle.trace_claims.specs.Trace.{Trace}
use Rattle.sweep_player.specs.Tally.{IsTallyOf}
use Rattle.sweep_player.proofs.TallyLaws.{HasTaken}
use Rattle.sweep_player.proofs.tally.Tally.count_all.Given as goal

abbrev pub invariant-loop-line : goal.invariant-loop-line
invariant-loop-line l = (trace : Trace) → IsTallyOf trace l.fn.self
    → HasTaken trace l.lines l.line-index l.self
