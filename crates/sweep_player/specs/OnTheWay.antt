-- Where the counting of a play stands on its way through what is read.
use Rattle.std.specs.Prelude.{◌≡◌, List}
use Rattle.trace_types.specs.declared.step.Step.{Step}
use Rattle.group_trace.specs.DiskCalls.{Spellings, measures_of}
use Rattle.group_trace.specs.DiskRun.{DiskScene, disk_run, first_disk_scene}
use Rattle.group_trace.specs.Run.{AreTaken, run, run_lines}
use Rattle.group_trace.specs.Scene.{Scene, first_scene}
use Rattle.schedule_play.specs.Reading.{Reading, then_read}
use Rattle.schedule_play.specs.Trace.{trace_of_reading}
use Rattle.sweep_player.specs.declared.playing.Turn.{Turn}
use Rattle.sweep_player.specs.declared.playing.Turn.TheVariants as turn
use Rattle.sweep_player.specs.declared.tally.Tally.{Tally}
use Rattle.sweep_player.specs.Counts.{summary_of_trace}
use Rattle.sweep_player.specs.Tally.{IsTallyOf}

-- Some steps of all that is read were taken and their lines counted, and this is what is still read
-- where they led
pub record HasCounted (f : Spellings) (all : Reading) (rest : Scene → Reading) (t : Tally)
    (stands : DiskScene → Type 0) : Type 0 where
  pub done : List Step
  pub taken : AreTaken (measures_of f) first_scene done
  pub reading_is : all ≡ then_read done (rest (run (measures_of f) first_scene done))
  pub tally : IsTallyOf (run_lines (measures_of f) first_scene done) t
  pub left : stands (disk_run f first_disk_scene done)

-- the counts are those of the whole trace of what is read
abbrev pub HasAll : Spellings → Reading → Tally → Type 0
HasAll f all t = t.summary ≡ summary_of_trace (trace_of_reading (measures_of f) all)

-- after a turn the rest is still read, or a step is refused and all is counted
abbrev pub TurnCounts : Spellings → Reading → (Scene → Reading) → Tally → (DiskScene → Type 0)
    → Turn → Type 0
TurnCounts f all rest t stands turn.GoesOn = HasCounted f all rest t stands
TurnCounts f all rest t stands turn.Refused = HasAll f all t
