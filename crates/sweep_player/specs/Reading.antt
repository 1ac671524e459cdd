-- The trace that a play writes of steps, and what it comes to.
use Rattle.std.specs.Prelude.{ℕ, ◌+◌, ◌^◌, Bool, true, nat_le, nat_lt, List, [], ◌∷◌, Option, Some, Result, Ok, Err, if◌then◌else◌}
use Rattle.trace_types.specs.declared.line.LineFault.{LineFault}
use Rattle.trace_types.specs.declared.line.LineFault.TheVariants as fault
use Rattle.trace_types.specs.declared.step.Step.{Step}
use Rattle.trace_types.specs.declared.step.Step.TheVariants as step
use Rattle.trace_claims.specs.Trace.{Trace}
use Rattle.group_trace.specs.Scene.{Measures, Scene, first_scene}
use Rattle.schedule_play.specs.Reading.{Reading, all_read, with_given}
use Rattle.schedule_play.specs.Trace.{trace_of_reading}
use Rattle.sweep.specs.declared.summary.Summary.{Summary}
use Rattle.sweep_player.specs.Counts.{summary_of_trace}

-- whether a step moves clocks no further than a line of a schedule can
unfoldable pub moves_within : Step → Bool
moves_within (step.Clock server reading) = nat_lt reading (10 ^ 18)
moves_within (step.Advance millis) = nat_le millis (10 ^ 9)
moves_within s = true

-- what a step gives as the line with this number, from 1
unfoldable pub given_as : ℕ → Step → Result (Option Step) LineFault
given_as number s =
    if nat_lt 50000 number then Err fault.TooMany
    else (if moves_within s then Ok (Some s) else Err fault.Grammar)

-- what is read in a scene of these steps, each as a line, of which the first has this number, up to
-- the first refused line
unfoldable pub steps_read_from : Measures → ℕ → List Step → Scene → Reading
steps_read_from m number [] w = all_read
steps_read_from m number (s ∷ ss) w =
    with_given m number (given_as number s) (steps_read_from m (number + 1) ss) w

-- what is read of steps
abbrev pub steps_read : Measures → List Step → Reading
steps_read m ss = steps_read_from m 1 ss first_scene

-- THE TRACE OF STEPS, each as the line of a schedule
abbrev pub trace_of_steps : Measures → List Step → Trace
trace_of_steps m ss = trace_of_reading m (steps_read m ss)

-- WHAT STEPS COME TO
unfoldable pub summary_of_steps : Measures → List Step → Summary
summary_of_steps m ss = summary_of_trace (trace_of_steps m ss)
