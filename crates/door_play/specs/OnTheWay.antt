-- Where a door stands on its way through the steps that are played.
use Rattle.std.specs.Prelude.{◌≡◌, ℕ, List, [], ◌∷◌, Some}
use Rattle.harp_types.specs.declared.reply.Reply.{Reply}
use Rattle.trace_types.specs.declared.line.LineFault.{LineFault}
use Rattle.trace_types.specs.declared.step.Step.{Step}
use Rattle.group_rules.specs.Places.{Trio}
use Rattle.group_trace.specs.Pump.{spelled_out}
use Rattle.group_trace.specs.Run.{AreTaken, run, run_lines}
use Rattle.group_trace.specs.Scene.{Measures, Scene, first_scene}
use Rattle.group_trace.specs.DiskCalls.{Spellings, measures_of}
use Rattle.group_trace.specs.DiskRun.{DiskScene, disk_run, first_disk_scene}
use Rattle.schedule_play.specs.Reading.{Reading, then_read, with_steps}
use Rattle.schedule_play.specs.Stage.{AreReadings, clocks_after}
use Rattle.door_play.specs.Replies.{answers_in}
use Rattle.door_play.specs.declared.stepping.Stop.{Stop}
use Rattle.door_play.specs.declared.stepping.Stop.TheVariants.{Refused, NoMemory}

-- Some steps were taken of all that is read, these answers stand in their lines, and this is what is
-- still read where they led
pub record HasHeard (f : Spellings) (all : Reading) (rest : Scene → Reading)
    (answers : List (ℕ × Reply)) (stands : DiskScene → Type 0) : Type 0 where
  pub done : List Step
  pub taken : AreTaken (measures_of f) first_scene done
  pub reading_is : all ≡ then_read done (rest (run (measures_of f) first_scene done))
  pub said : answers_in (run_lines (measures_of f) first_scene done) ≡ answers
  pub left : stands (disk_run f first_disk_scene done)

-- one of the steps that are read is refused, and the world stands where those before it lead
pub record HasStopped (f : Spellings) (all : Reading) (stands : DiskScene → Type 0) : Type 0 where
  pub fault : LineFault
  pub refused : all.refused ≡ Some (0, fault)
  pub left : stands (disk_run f first_disk_scene all.steps)

-- why no more steps are taken; without memory nothing is said of the world
abbrev pub StopGives : Spellings → Reading → (DiskScene → Type 0) → Stop → Type 0
StopGives f all stands Refused = HasStopped f all stands
StopGives f all stands NoMemory = Unit {0}

-- what is read of steps in a scene, and then further
unfoldable pub taken_then : Measures → List Step → (Scene → Reading) → Scene → Reading
taken_then m [] rest w = rest w
taken_then m (s ∷ ss) rest w = with_steps m 0 (spelled_out m w s) (taken_then m ss rest) w

-- ---- clocks

-- what the clocks read after steps
abbrev pub clocks_behind : Trio ℕ → List Step → Trio ℕ
clocks_behind clocks [] = clocks
clocks_behind clocks (s ∷ ss) = clocks_behind (clocks_after clocks s) ss

-- before each step, and behind the last, each reading is below 2^62
abbrev pub AreReadable : Trio ℕ → List Step → Type 0
AreReadable clocks [] = AreReadings clocks
AreReadable clocks (s ∷ ss) = AreReadings clocks × AreReadable (clocks_after clocks s) ss
