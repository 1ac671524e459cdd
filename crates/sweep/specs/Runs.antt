-- The runs of a sweep.
use Rattle.std.specs.Prelude.{ℕ, ◌+◌, List, map}
use Rattle.std.specs.List.{range_with_len}
use Rattle.trace_types.specs.declared.step.Step.{Step}
use Rattle.sweep.specs.declared.summary.Summary.{Summary}
use Rattle.sweep.specs.Lines.{generated}

-- the summary of each seed's schedule, for so many seeds from this one on
abbrev pub summaries : (List Step → Summary) → ℕ → ℕ → ℕ → List Summary
summaries summary_of seed runs lines =
    map (λ run. summary_of (generated (seed + run) lines)) (range_with_len 0 runs)
