-- The steps that are read of a schedule's text.
use Rattle.std.specs.Prelude.{ℕ, ◌+◌, nat_lt, List, [], ◌∷◌, ◌++◌, length, Option, Some, None, Result, Ok, Err, if◌then◌else◌}
use Rattle.harp_types.specs.Limits.{longest_line, most_lines}
use Rattle.trace_types.specs.declared.step.Step.{Step}
use Rattle.trace_types.specs.declared.line.LineFault.{LineFault}
use Rattle.trace_types.specs.declared.line.LineFault.TheVariants as fault
use Rattle.line_reader.specs.Lines.{lines_of}
use Rattle.schedule_text.specs.declared.fault.TextFault.{TextFault}
use Rattle.schedule_text.specs.Reading.{meaning_of}
use Rattle.group_trace.specs.Pump.{spelled_out}
use Rattle.group_trace.specs.Refusals.{refusal}
use Rattle.group_trace.specs.Run.{next}
use Rattle.group_trace.specs.Scene.{Measures, Scene, first_scene}

-- a line that means no step is out of the grammar
abbrev pub step_or_fault : Result (Option Step) TextFault → Result (Option Step) LineFault
step_or_fault (Ok step) = Ok step
step_or_fault (Err why) = Err fault.Grammar

-- what the line with this number, from 1, gives: a step, nothing, or the fault for which it is
-- refused
unfoldable pub given_by : ℕ → List ℕ → Result (Option Step) LineFault
given_by number line =
    if nat_lt most_lines number then Err fault.TooMany
    else (if nat_lt longest_line (length line) then Err fault.TooLong
    else step_or_fault (meaning_of line))

-- the elementary steps that are taken, and the number and the fault of the line that is refused,
-- where there is one
pub record Reading : Type 0 where
  pub steps : List Step
  pub refused : Option (ℕ × LineFault)

-- nothing more is read
abbrev pub all_read : Reading
all_read = record { steps = []; refused = None }

-- the line with this number is refused
abbrev pub refused_at : ℕ → LineFault → Reading
refused_at number fault = record { steps = []; refused = Some (number, fault) }

-- first these steps, and then what is read further
abbrev pub then_read : List Step → Reading → Reading
then_read ss rest = record { steps = ss ++ rest.steps; refused = rest.refused }

-- what is read unless the line with this number is refused
abbrev pub unless_refused : ℕ → Option LineFault → Reading → Reading
unless_refused number None read = read
unless_refused number (Some fault) read = refused_at number fault

-- a step of the line with this number is read, and then the rest where it leads
abbrev pub with_step : Measures → ℕ → Step → (Scene → Reading) → Scene → Reading
with_step m number s rest w =
    unless_refused number (refusal m w s) (then_read (s ∷ []) (rest (next m w s)))

-- steps of the line with this number are read, up to the first that is refused, and then the rest
unfoldable pub with_steps : Measures → ℕ → List Step → (Scene → Reading) → Scene → Reading
with_steps m number [] rest w = rest w
with_steps m number (s ∷ ss) rest w = with_step m number s (with_steps m number ss rest) w

-- what the line with this number gave is read, and then the rest; the deliveries of a pump stand
-- that come before one that is refused
abbrev pub with_given : Measures → ℕ → Result (Option Step) LineFault → (Scene → Reading) → Scene
    → Reading
with_given m number (Ok None) rest w = rest w
with_given m number (Ok (Some s)) rest w = with_steps m number (spelled_out m w s) rest w
with_given m number (Err fault) rest w = refused_at number fault

-- what is read in a scene of these lines, of which the first has this number, up to the first
-- refused line
unfoldable pub reading_from : Measures → ℕ → List (List ℕ) → Scene → Reading
reading_from m number [] w = all_read
reading_from m number (line ∷ lines) w =
    with_given m number (given_by number line) (reading_from m (number + 1) lines) w

-- what is read of a schedule's lines
abbrev pub reading_of : Measures → List (List ℕ) → Reading
reading_of m lines = reading_from m 1 lines first_scene

-- what is read of a schedule's text
abbrev pub reading : Measures → List ℕ → Reading
reading m text = reading_of m (lines_of text)
