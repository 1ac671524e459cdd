-- In every run a host can do what is asked of it.
use Rattle.std.specs.Prelude.{◌≡◌, List, Some}
use Rattle.event_record.specs.declared.record.RecordFields.{RecordFields}
use Rattle.group_trace.specs.DiskRun.{DiskScene}
use Rattle.schedule_play.specs.Stage.{IsReached}
use Rattle.group_rules.specs.Places.{Place}
use Rattle.group_rules.specs.Step.{Input as Begins}
use Rattle.group_safety.specs.Laws.{Whole}
use Rattle.world_rules.specs.Host.{HostValue, IsHost}
use Rattle.world_rules.specs.Spellings.{spellings}
use Rattle.world_rules.specs.Steps.{CanFail, CanTake}
use Rattle.node.specs.Input.{input_of}
use Rattle.node.specs.Stock.{Stock}
use Rattle.node.specs.declared.input.Input.{Input}
use Rattle.world_laws.specs.Stocks.{HasStock}

-- the group of each scene to which steps lead keeps the facts of the group
abbrev pub ReachedAreWhole : Type 0
ReachedAreWhole = (w : DiskScene) → IsReached spellings w → Whole w.scene.group

-- WHAT A STEP OF A HOST RESTS ON stands in each scene to which steps lead, whatever begins the step
abbrev pub HostsCanTake : Type 0
HostsCanTake = (w : DiskScene) → IsReached spellings w → (q : Place) (k : Stock)
    (saved : List RecordFields) (h : HostValue) → h.me ≡ q
    → IsHost (w.scene.group.server q) k saved (w.disks q) h → HasStock w.scene.group q k
    → (given : Input) (i : Begins) → input_of given ≡ Some i
    → CanTake w.scene.group q given i (w.disks q) h

-- and so does what a power failure rests on
abbrev pub HostsCanFail : Type 0
HostsCanFail = (w : DiskScene) → IsReached spellings w → (q : Place)
    → CanFail w.scene.group q (w.disks q)
