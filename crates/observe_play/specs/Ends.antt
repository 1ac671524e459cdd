-- How the play of an observed schedule ends. `stands` is the world that it leaves, by the scenes at
-- which it stands.
use Rattle.std.specs.Prelude.{◌≡◌, ◌≢◌, ◌⊎◌, ℕ, List, [], ◌∷◌, ◌++◌, take, Option, Some, None}
use Rattle.std.specs.Io.KnownBytes.{Appends}
use Rattle.harp_types.specs.Streams.{GrewByPart}
use Rattle.line_reader.specs.Lines.{Feedless, lines_of}
use Rattle.group_trace.specs.DiskCalls.{Spellings, measures_of}
use Rattle.group_trace.specs.DiskRun.{DiskScene, disk_run, first_disk_scene}
use Rattle.schedule_play.specs.declared.exit.Exit.{Exit}
use Rattle.schedule_play.specs.declared.exit.Exit.TheVariants as exit
use Rattle.observed_text.specs.declared.step.ObservedStep.{ObservedStep}
use Rattle.observe_laws.specs.Reading.{ObservedReading, observed_reading, observed_reading_of}
use Rattle.observe_laws.specs.Run.{observed_lines, observed_run, observed_run_lines, played_steps}
use Rattle.observe_laws.specs.Scene.{first_observed}
use Rattle.observe_laws.specs.Trace.{ObservedTrace, observed_last, observed_trace, observed_trace_of}
use Rattle.observe_laws.specs.Trace.{observed_trace_text}

-- the world stands where the steps of the schedule lead that are among these
abbrev pub StandsAfter : Spellings → (DiskScene → Type 0) → List ObservedStep → Type 0
StandsAfter f stands ss = stands (disk_run f first_disk_scene (played_steps ss))

-- the lines of these steps, from the first scene on
abbrev pub lines_after : Spellings → List ObservedStep → ObservedTrace
lines_after f ss = observed_run_lines (measures_of f) first_observed ss

-- the whole observed trace of what is read was written, and the world is that of all its steps
pub record EndsObserved (f : Spellings) (all : ObservedReading) (before after : Option (List ℕ))
    (stands : DiskScene → Type 0) : Type 0 where
  pub wrote : Appends before after (observed_trace_text (observed_trace_of (measures_of f) all))
  pub left : StandsAfter f stands all.steps

-- ---- a source that failed

-- The text is the bytes of some lines that were read, the first bytes of another one, and what the
-- source has left. No line that was read is refused. Their steps were taken and just the lines of
-- these steps were written, each whole; the steps of the other lines come later
pub record ObservedSourceFails (f : Spellings) (text : List ℕ)
    (source before after : Option (List ℕ)) (stands : DiskScene → Type 0) : Type 0 where
  pub read : List (List ℕ)
  pub bytes : List ℕ
  pub begun : List ℕ
  pub rest : List ℕ
  pub source_left : source ≡ Some rest
  pub text_is : text ≡ bytes ++ (begun ++ rest)
  pub lines_are : lines_of text ≡ read ++ lines_of (begun ++ rest)
  pub none_ended : Feedless begun
  pub none_refused : (observed_reading_of (measures_of f) read).refused ≡ None
  pub wrote : Appends before after
      (observed_trace_text (lines_after f (observed_reading_of (measures_of f) read).steps))
  pub left : StandsAfter f stands (observed_reading_of (measures_of f) read).steps
  pub later : List ObservedStep
  pub parts : (observed_reading (measures_of f) text).steps
      ≡ (observed_reading_of (measures_of f) read).steps ++ later

-- ---- a sink that failed

-- these lines were written whole, and then a first part of the others
abbrev pub BreaksObserved : Option (List ℕ) → Option (List ℕ) → ObservedTrace → ObservedTrace
    → Type 0
BreaksObserved before after whole others =
    (n : ℕ) × Appends before after (observed_trace_text whole
    ++ take n (observed_trace_text others))

-- in the lines of a step that was taken: those of each step before it stand whole
pub record BreaksInObserved (f : Spellings) (all : ObservedReading) (before after : Option (List ℕ))
    (stands : DiskScene → Type 0) : Type 0 where
  pub done : List ObservedStep
  pub last : ObservedStep
  pub later : List ObservedStep
  pub parts : all.steps ≡ done ++ last ∷ later
  pub wrote : BreaksObserved before after (lines_after f done)
      (observed_lines (measures_of f) (observed_run (measures_of f) first_observed done) last)
  pub left : StandsAfter f stands (done ++ last ∷ [])

-- in the last line: those of all steps stand whole
pub record BreaksInEnd (f : Spellings) (all : ObservedReading) (before after : Option (List ℕ))
    (stands : DiskScene → Type 0) : Type 0 where
  pub wrote : BreaksObserved before after (lines_after f all.steps)
      (observed_last (measures_of f) all ∷ [])
  pub left : StandsAfter f stands all.steps

-- in either of the two
abbrev pub ObservedSinkFails : Spellings → ObservedReading → Option (List ℕ) → Option (List ℕ)
    → (DiskScene → Type 0) → Type 0
ObservedSinkFails f all before after stands =
    BreaksInObserved f all before after stands ⊎ BreaksInEnd f all before after stands

-- ---- the exits

-- HOW THE PLAY OF AN OBSERVED TEXT ENDS: as done where the source was read to its end and no line
-- is refused, with a refused line where one is, the whole observed trace written each time; where
-- source or sink failed, and without memory, with a part of it. Without memory nothing is said of
-- the world
abbrev pub ObserveEnds : Spellings → List ℕ → Option (List ℕ) → Option (List ℕ) → Option (List ℕ)
    → (DiskScene → Type 0) → Exit → Type 0
ObserveEnds f text source before after stands exit.Done =
    (source ≡ Some []) × ((observed_reading (measures_of f) text).refused ≡ None)
    × EndsObserved f (observed_reading (measures_of f) text) before after stands
ObserveEnds f text source before after stands exit.RefusedLine =
    ((observed_reading (measures_of f) text).refused ≢ None)
    × EndsObserved f (observed_reading (measures_of f) text) before after stands
ObserveEnds f text source before after stands exit.SourceFailed =
    ObservedSourceFails f text source before after stands
ObserveEnds f text source before after stands exit.SinkFailed =
    ObservedSinkFails f (observed_reading (measures_of f) text) before after stands
ObserveEnds f text source before after stands exit.NoMemory =
    GrewByPart before after (observed_trace_text (observed_trace (measures_of f) text))
