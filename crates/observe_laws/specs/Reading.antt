-- The steps that are read of an observed schedule's text.
use Rattle.std.specs.Prelude.{ℕ, ◌+◌, nat_lt, List, [], ◌∷◌, ◌++◌, length, Option, Some, None, Result, Ok, Err, if◌then◌else◌}
use Rattle.harp_types.specs.Limits.{longest_line, most_lines}
use Rattle.trace_types.specs.declared.line.LineFault.{LineFault}
use Rattle.trace_types.specs.declared.line.LineFault.TheVariants as fault
use Rattle.line_reader.specs.Lines.{lines_of}
use Rattle.schedule_text.specs.declared.fault.TextFault.{TextFault}
use Rattle.group_trace.specs.Scene.{Measures}
use Rattle.observed_text.specs.declared.step.ObservedStep.{ObservedStep}
use Rattle.observed_text.specs.Reading.{observed_meaning}
use Rattle.observe_laws.specs.Run.{observed_next, observed_out, observed_refusal}
use Rattle.observe_laws.specs.Scene.{ObservedScene, first_observed}

-- a line that means no step is out of the grammar
abbrev pub observed_or_fault : Result (Option ObservedStep) TextFault
    → Result (Option ObservedStep) LineFault
observed_or_fault (Ok step) = Ok step
observed_or_fault (Err why) = Err fault.Grammar

-- what the line with this number, from 1, gives: a step, nothing, or the fault for which it is
-- refused
unfoldable pub observed_by : ℕ → List ℕ → Result (Option ObservedStep) LineFault
observed_by number line =
    if nat_lt most_lines number then Err fault.TooMany
    else (if nat_lt longest_line (length line) then Err fault.TooLong
    else observed_or_fault (observed_meaning line))

-- the elementary steps that are taken, and the number and the fault of the line that is refused,
-- where there is one
pub record ObservedReading : Type 0 where
  pub steps : List ObservedStep
  pub refused : Option (ℕ × LineFault)

-- nothing more is read
abbrev pub all_observed : ObservedReading
all_observed = record { steps = []; refused = None }

-- the line with this number is refused
abbrev pub observed_refused_at : ℕ → LineFault → ObservedReading
observed_refused_at number fault = record { steps = []; refused = Some (number, fault) }

-- first these steps, and then what is read further
abbrev pub then_observed : List ObservedStep → ObservedReading → ObservedReading
then_observed ss rest = record { steps = ss ++ rest.steps; refused = rest.refused }

-- what is read unless the line with this number is refused
abbrev pub unless_observed_refused : ℕ → Option LineFault → ObservedReading → ObservedReading
unless_observed_refused number None read = read
unless_observed_refused number (Some fault) read = observed_refused_at number fault

-- steps of the line with this number are read, up to the first that is refused, and then the rest
unfoldable pub with_observed : Measures → ℕ → List ObservedStep
    → (ObservedScene → ObservedReading) → ObservedScene → ObservedReading
with_observed m number [] rest w = rest w
with_observed m number (s ∷ ss) rest w =
    unless_observed_refused number (observed_refusal m w s)
    (then_observed (s ∷ []) (with_observed m number ss rest (observed_next m w s)))

-- what the line with this number gave is read, and then the rest; of a pump and of a drain stands
-- what comes before a step that is refused
abbrev pub with_observed_given : Measures → ℕ → Result (Option ObservedStep) LineFault
    → (ObservedScene → ObservedReading) → ObservedScene → ObservedReading
with_observed_given m number (Ok None) rest w = rest w
with_observed_given m number (Ok (Some s)) rest w =
    with_observed m number (observed_out m w s) rest w
with_observed_given m number (Err fault) rest w = observed_refused_at number fault

-- what is read in a scene of these lines, of which the first has this number, up to the first
-- refused line
unfoldable pub observed_from : Measures → ℕ → List (List ℕ) → ObservedScene → ObservedReading
observed_from m number [] w = all_observed
observed_from m number (line ∷ lines) w =
    with_observed_given m number (observed_by number line) (observed_from m (number + 1) lines) w

-- what is read of an observed schedule's lines
abbrev pub observed_reading_of : Measures → List (List ℕ) → ObservedReading
observed_reading_of m lines = observed_from m 1 lines first_observed

-- what is read of an observed schedule's text
abbrev pub observed_reading : Measures → List ℕ → ObservedReading
observed_reading m text = observed_reading_of m (lines_of text)
