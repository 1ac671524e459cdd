-- Running servers are the group: the statement.
use Rattle.std.specs.Prelude.{◌≡◌, ◌⊎◌, Bool, true, false, List, filter, flat_map}
use Rattle.event_record.specs.declared.record.RecordFields.{RecordFields}
use Rattle.group_rules.specs.Names.{place_of}
use Rattle.group_trace.specs.DiskCalls.{measures_of}
use Rattle.group_trace.specs.DiskRun.{DiskScene, disk_run, first_disk_scene}
use Rattle.group_trace.specs.Run.{CanFollow, run_lines}
use Rattle.group_trace.specs.Scene.{first_scene}
use Rattle.harp_types.specs.Trio.{value_of}
use Rattle.harp_types.specs.declared.server.ServerId.{ServerId}
use Rattle.harp_types.specs.declared.trio.Trio.{Trio}
use Rattle.node.specs.Stock.{Stock}
use Rattle.trace_laws.specs.DiskLaws.{DiskRunIsRight}
use Rattle.trace_types.specs.declared.line.Line.{Line}
use Rattle.trace_types.specs.declared.line.Line.TheVariants as line
use Rattle.trace_types.specs.declared.step.Step.{Step}
use Rattle.world_lines.specs.Given.{answered_lines}
use Rattle.world_rules.specs.Host.{IsHostAt}
use Rattle.world_rules.specs.Spellings.{spellings}
use Rattle.running_laws.specs.Books.{HasBook, answers_in}
use Rattle.running_laws.specs.Events.{Event, IsNewSite, Site}
use Rattle.running_laws.specs.Histories.{IsHistory}

-- ---- servers and disks

-- A PLACE IS A SERVER of a scene over its disk
pub record IsServerOf (w : DiskScene) (place : ServerId) (s : Site) : Type 0 where
  pub stock : Stock
  pub saved : List RecordFields
  pub host : IsHostAt (w.scene.group.server (place_of place)) stock saved
      (w.disks (place_of place)) (place_of place) s.node s.disk.now

-- or nothing was written there yet, and its server is down
abbrev pub Stands : DiskScene → ServerId → Site → Type 0
Stands w place s = IsServerOf w place s
    ⊎ (IsNewSite s × ((w.scene.group.server (place_of place)).up ≡ false))

-- ---- answers

abbrev pub is_answer : Line → Bool
is_answer (line.Answered server client number index reply) = true
is_answer l = false

-- the answers of a history, as lines of a trace
abbrev pub answer_lines : List Event → List Line
answer_lines events =
    flat_map (λ (e : Event). answered_lines e.place (answers_in e.outs)) events

-- ---- the statement

-- A HISTORY IS A RUN OF THE GROUP: steps that only a full net may refuse end in these servers and
-- disks, their answers are those of the history, and the group's book is the history's
pub record IsRunOfGroup (events : List Event) (left : Trio Site) : Type 0 where
  pub steps : List Step
  pub taken : CanFollow (measures_of spellings) first_scene steps
  pub right : DiskRunIsRight spellings steps
  pub stands : (place : ServerId)
      → Stands (disk_run spellings first_disk_scene steps) place (value_of left place)
  pub answers : filter is_answer (run_lines (measures_of spellings) first_scene steps)
      ≡ answer_lines events
  pub book : HasBook events (disk_run spellings first_disk_scene steps).scene.group.book

-- RUNNING SERVERS ARE THE GROUP
abbrev pub RunningServersAreTheGroup : Type 0
RunningServersAreTheGroup = (events : List Event) (left : Trio Site) → IsHistory events left
    → IsRunOfGroup events left
