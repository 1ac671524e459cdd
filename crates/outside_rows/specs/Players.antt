-- Kinds of steps that players count.
use Rattle.std.specs.Prelude.{ℕ, List, sum_by}
use Rattle.trace_types.specs.declared.step.Step.{Step}
use Rattle.trace_types.specs.declared.step.Step.TheVariants as step
use Rattle.sweep.specs.declared.summary.Summary.{Summary}
use Rattle.outside_rows.specs.declared.text.players.Kind.{Kind}
use Rattle.outside_rows.specs.declared.text.players.Kind.TheVariants.{Ask, Pump, Boot, Failure}

-- 1 for a step of this kind, and 0 for another one
unfoldable pub one_if : Kind → Step → ℕ
one_if Ask (step.Ask server client number cred call) = 1
one_if Ask _ = 0
one_if Pump (step.Pump among) = 1
one_if Pump _ = 0
one_if Boot (step.Boot server) = 1
one_if Boot _ = 0
one_if Failure (step.Power server) = 1
one_if Failure (step.Crash server pick) = 1
one_if Failure _ = 0

abbrev pub count_of : Kind → List Step → ℕ
count_of kind steps = sum_by (one_if kind) steps

abbrev pub kinds : List Step → Summary
kinds steps = record {
  entered = count_of Ask steps;
  answered = count_of Pump steps;
  refused = count_of Boot steps;
  opened = count_of Failure steps;
}
