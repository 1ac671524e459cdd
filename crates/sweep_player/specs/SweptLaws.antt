-- What a sweep counts of steps, and what a play writes of their text.
use Rattle.std.specs.Prelude.{◌≡◌, ℕ, ◌<◌, ◌≤◌, ◌^◌, List, length}
use Rattle.std.specs.List.{AllByRecursion}
use Rattle.harp_types.specs.Limits.{longest_line}
use Rattle.trace_types.specs.declared.step.Step.{Step}
use Rattle.text_spelling.specs.StepFits.{StepFits}
use Rattle.text_spelling.specs.Steps.{step_text}
use Rattle.group_trace.specs.Scene.{Measures}
use Rattle.schedule_play.specs.Reading.{reading}
use Rattle.schedule_play.specs.Trace.{trace_of}
use Rattle.accept_laws.specs.AcceptLaws.{HasShortLines}
use Rattle.sweep.specs.Lines.{generated}
use Rattle.sweep.specs.Texts.{schedule_text}
use Rattle.sweep_player.specs.Counts.{summary_of_trace}
use Rattle.sweep_player.specs.Reading.{steps_read, summary_of_steps}

-- a line of a schedule can tell this step
abbrev pub HasLine : Step → Type 0
HasLine s = StepFits s × (length (step_text s) ≤ longest_line)

-- THE TEXT OF STEPS IS READ as the steps are
abbrev pub StepsAreRead : Type 0
StepsAreRead = (m : Measures) → (steps : List Step) → AllByRecursion HasLine steps
    → reading m (schedule_text steps) ≡ steps_read m steps

-- A GENERATED SCHEDULE HAS SHORT LINES
abbrev pub GeneratedAreShort : Type 0
GeneratedAreShort = (seed lines : ℕ) → lines < 2 ^ 32
    → HasShortLines (schedule_text (generated seed lines))

-- A SWEEP COUNTS WHAT PLAY WRITES of the schedule that gen writes
abbrev pub SweepsCountPlays : Type 0
SweepsCountPlays = (m : Measures) → (seed lines : ℕ) → lines < 2 ^ 32
    → summary_of_steps m (generated seed lines)
    ≡ summary_of_trace (trace_of m (schedule_text (generated seed lines)))
