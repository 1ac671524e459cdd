-- Where a play stands on its way through what is read.
use Rattle.std.specs.Prelude.{◌≡◌, ◌≢◌, ℕ, ◌+◌, ◌<◌, ◌^◌, ◌*◌, List, ◌++◌, length, Option, Some, None}
use Rattle.std.specs.Io.KnownBytes.{Appends}
use Rattle.harp_types.specs.Streams.{GrewByPart}
use Rattle.harp_types.specs.declared.server.ServerId.{ServerId}
use Rattle.trace_types.specs.declared.step.Step.{Step}
use Rattle.line_reader.specs.Lines.{lines_of}
use Rattle.group_rules.specs.Places.{Trio}
use Rattle.group_trace.specs.Pump.{deliveries}
use Rattle.group_trace.specs.Run.{AreTaken, run, run_lines}
use Rattle.group_trace.specs.Scene.{Measures, Scene, first_scene}
use Rattle.group_trace.specs.DiskCalls.{Spellings, measures_of}
use Rattle.group_trace.specs.DiskRun.{DiskScene, disk_run, first_disk_scene}
use Rattle.schedule_play.specs.declared.exit.Exit.TheVariants as exit
use Rattle.schedule_play.specs.declared.exit.Stop.{Stop}
use Rattle.schedule_play.specs.declared.exit.Stop.TheVariants as stop
use Rattle.schedule_play.specs.declared.turn.Turn.{Turn}
use Rattle.schedule_play.specs.declared.turn.Turn.TheVariants as turn
use Rattle.schedule_play.specs.Ends.{EndsWhole, PlayEnds, SinkFails}
use Rattle.schedule_play.specs.Reading.{Reading, all_read, reading_of, then_read, with_steps}
use Rattle.schedule_play.specs.Trace.{trace_of_reading, trace_text}

-- A play has taken some steps of all that is read and written their lines, and this is what is
-- still read where they led
pub record HasCome (f : Spellings) (all : Reading) (rest : Scene → Reading)
    (before after : Option (List ℕ)) (stands : DiskScene → Type 0) : Type 0 where
  pub done : List Step
  pub taken : AreTaken (measures_of f) first_scene done
  pub reading_is : all ≡ then_read done (rest (run (measures_of f) first_scene done))
  pub wrote : Appends before after (trace_text (run_lines (measures_of f) first_scene done))
  pub left : stands (disk_run f first_disk_scene done)

-- at most so many deliveries of the pump of the line with this number are still to come
abbrev pub with_pump : Measures → ℕ → ℕ → Option (ServerId × ServerId) → (Scene → Reading) → Scene
    → Reading
with_pump m number most among rest w =
    with_steps m number (deliveries m most among w) rest w

-- ---- what a line leads to

-- after a turn the play has come to the rest, or a line is refused; no step ends the input
abbrev pub TurnGives : Spellings → Reading → (Scene → Reading) → Option (List ℕ)
    → Option (List ℕ) → (DiskScene → Type 0) → Turn → Type 0
TurnGives f all rest before after stands turn.GoesOn = HasCome f all rest before after stands
TurnGives f all rest before after stands turn.Ended = ⊥
TurnGives f all rest before after stands turn.Refused =
    (all.refused ≢ None) × EndsWhole f all before after stands

-- what stands after a stop that isn't the source's
abbrev pub StopGives : Spellings → Reading → Option (List ℕ) → Option (List ℕ)
    → (DiskScene → Type 0) → Stop → Type 0
StopGives f all before after stands stop.SourceFailed = ⊥
StopGives f all before after stands stop.SinkFailed = SinkFails f all before after stands
StopGives f all before after stands stop.NoMemory =
    GrewByPart before after (trace_text (trace_of_reading (measures_of f) all))

-- ---- the lines of a source

-- the text is the bytes of some lines that were read and what is left; no line that was read is
-- refused, and the play has taken their steps
pub record GoesOn (f : Spellings) (text : List ℕ) (number : ℕ) (left before after : Option (List ℕ))
    (stands : DiskScene → Type 0) : Type 0 where
  pub read : List (List ℕ)
  pub bytes : List ℕ
  pub rest : List ℕ
  pub left_is : left ≡ Some rest
  pub text_is : text ≡ bytes ++ rest
  pub lines_are : lines_of text ≡ read ++ lines_of rest
  pub number_is : number ≡ 1 + length read
  pub come : HasCome f (reading_of (measures_of f) read) (λ w. all_read) before after stands

-- what the line with this number leads to
abbrev pub LineGives : Spellings → List ℕ → ℕ → Option (List ℕ) → Option (List ℕ)
    → Option (List ℕ) → Option (List ℕ) → (DiskScene → Type 0) → Turn → Type 0
LineGives f text number source left before after stands turn.GoesOn =
    GoesOn f text (number + 1) left before after stands
LineGives f text number source left before after stands turn.Ended =
    PlayEnds f text source before after stands exit.Done
LineGives f text number source left before after stands turn.Refused =
    PlayEnds f text source before after stands exit.RefusedLine

-- how far the clocks can have gone before the line with this number: a line sets a clock below
-- 10^18, or adds 10^9 at most
abbrev pub AreBelow : ℕ → Trio ℕ → Type 0
AreBelow number clocks =
    (clocks.zero_th < 10 ^ 18 + number * 10 ^ 9) × (clocks.one_th < 10 ^ 18 + number * 10 ^ 9)
    × (clocks.two_th < 10 ^ 18 + number * 10 ^ 9)
