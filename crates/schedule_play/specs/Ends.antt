-- How a play ends. `stands` is the world that it leaves, by the scenes at which it stands.
use Rattle.std.specs.Prelude.{◌≡◌, ◌≢◌, ◌⊎◌, ℕ, List, [], ◌∷◌, ◌++◌, take, Option, Some, None}
use Rattle.std.specs.Io.KnownBytes.{Appends}
use Rattle.harp_types.specs.Streams.{GrewByPart}
use Rattle.line_reader.specs.Lines.{Feedless, lines_of}
use Rattle.trace_types.specs.declared.step.Step.{Step}
use Rattle.trace_claims.specs.Trace.{Trace}
use Rattle.group_trace.specs.Run.{run, run_lines, step_lines}
use Rattle.group_trace.specs.Scene.{first_scene}
use Rattle.group_trace.specs.DiskCalls.{Spellings, measures_of}
use Rattle.group_trace.specs.DiskRun.{DiskScene, disk_run, first_disk_scene}
use Rattle.schedule_play.specs.declared.exit.Exit.{Exit}
use Rattle.schedule_play.specs.declared.exit.Exit.TheVariants as exit
use Rattle.schedule_play.specs.Reading.{Reading, reading, reading_of}
use Rattle.schedule_play.specs.Trace.{last_of, trace_of, trace_of_reading, trace_text}

-- the whole trace of what is read was written, and the world is that of all its steps
pub record EndsWhole (f : Spellings) (all : Reading) (before after : Option (List ℕ))
    (stands : DiskScene → Type 0) : Type 0 where
  pub wrote : Appends before after (trace_text (trace_of_reading (measures_of f) all))
  pub left : stands (disk_run f first_disk_scene all.steps)

-- ---- a source that failed

-- The text is the bytes of some lines that were read, the first bytes of another one, and what the
-- source has left. No line that was read is refused. Their steps were taken and just the lines of
-- these steps were written, each whole; the steps of the other lines come later
pub record SourceFails (f : Spellings) (text : List ℕ) (source before after : Option (List ℕ))
    (stands : DiskScene → Type 0) : Type 0 where
  pub read : List (List ℕ)
  pub bytes : List ℕ
  pub begun : List ℕ
  pub rest : List ℕ
  pub source_left : source ≡ Some rest
  pub text_is : text ≡ bytes ++ (begun ++ rest)
  pub lines_are : lines_of text ≡ read ++ lines_of (begun ++ rest)
  pub none_ended : Feedless begun
  pub none_refused : (reading_of (measures_of f) read).refused ≡ None
  pub wrote : Appends before after
      (trace_text (run_lines (measures_of f) first_scene (reading_of (measures_of f) read).steps))
  pub left : stands (disk_run f first_disk_scene (reading_of (measures_of f) read).steps)
  pub later : List Step
  pub parts : (reading (measures_of f) text).steps ≡ (reading_of (measures_of f) read).steps ++
      later

-- ---- a sink that failed

-- these lines were written whole, and then a first part of the others
abbrev pub BreaksOff : Option (List ℕ) → Option (List ℕ) → Trace → Trace → Type 0
BreaksOff before after whole others =
    (n : ℕ) × Appends before after (trace_text whole ++ take n (trace_text others))

-- in the lines of a step that was taken: those of each step before it stand whole
pub record BreaksInStep (f : Spellings) (all : Reading) (before after : Option (List ℕ))
    (stands : DiskScene → Type 0) : Type 0 where
  pub done : List Step
  pub last : Step
  pub later : List Step
  pub parts : all.steps ≡ done ++ last ∷ later
  pub wrote : BreaksOff before after (run_lines (measures_of f) first_scene done)
      (step_lines (measures_of f) (run (measures_of f) first_scene done) last)
  pub left : stands (disk_run f first_disk_scene (done ++ last ∷ []))

-- in the last line: those of all steps stand whole
pub record BreaksInLast (f : Spellings) (all : Reading) (before after : Option (List ℕ))
    (stands : DiskScene → Type 0) : Type 0 where
  pub wrote : BreaksOff before after (run_lines (measures_of f) first_scene all.steps)
      (last_of (measures_of f) all ∷ [])
  pub left : stands (disk_run f first_disk_scene all.steps)

-- in either of the two
abbrev pub SinkFails : Spellings → Reading → Option (List ℕ) → Option (List ℕ)
    → (DiskScene → Type 0) → Type 0
SinkFails f all before after stands =
    BreaksInStep f all before after stands ⊎ BreaksInLast f all before after stands

-- ---- the exits

-- HOW A PLAY OF A TEXT ENDS: as done where the source was read to its end and no line is refused,
-- with a refused line where one is, the whole trace written each time; where source or sink
-- failed, and without memory, with a part of it. Without memory nothing is said of the world
abbrev pub PlayEnds : Spellings → List ℕ → Option (List ℕ) → Option (List ℕ) → Option (List ℕ)
    → (DiskScene → Type 0) → Exit → Type 0
PlayEnds f text source before after stands exit.Done =
    (source ≡ Some []) × ((reading (measures_of f) text).refused ≡ None)
    × EndsWhole f (reading (measures_of f) text) before after stands
PlayEnds f text source before after stands exit.RefusedLine =
    ((reading (measures_of f) text).refused ≢ None)
    × EndsWhole f (reading (measures_of f) text) before after stands
PlayEnds f text source before after stands exit.SourceFailed =
    SourceFails f text source before after stands
PlayEnds f text source before after stands exit.SinkFailed =
    SinkFails f (reading (measures_of f) text) before after stands
PlayEnds f text source before after stands exit.NoMemory =
    GrewByPart before after (trace_text (trace_of (measures_of f) text))
