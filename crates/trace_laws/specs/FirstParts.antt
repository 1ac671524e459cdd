-- What holds of each first part of a run's lines, where the writing of a trace was broken off.
use Rattle.std.specs.Prelude.{◌≡◌, ◌++◌, List}
use Rattle.trace_types.specs.declared.step.Step.{Step}
use Rattle.trace_claims.specs.Right.{IsRightSoFar}
use Rattle.trace_claims.specs.Trace.{Trace}
use Rattle.group_trace.specs.Run.{run_lines}
use Rattle.group_trace.specs.Scene.{Measures, first_scene}

-- of each first part of the lines
abbrev pub FirstPartsAreRight : Measures → List Step → Type 0
FirstPartsAreRight m ss = (part rest : Trace) → run_lines m first_scene ss ≡ part ++ rest
    → IsRightSoFar part
