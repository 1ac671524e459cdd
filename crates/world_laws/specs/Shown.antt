-- What servers show in every run.
use Rattle.std.specs.Prelude.{◌≡◌, List, Option, Some, IfSome, option_map}
use Rattle.event_record.specs.declared.record.RecordFields.{RecordFields}
use Rattle.group_trace.specs.DiskCalls.{measures_of}
use Rattle.group_trace.specs.DiskRun.{DiskScene}
use Rattle.group_rules.specs.Places.{Place}
use Rattle.harp_store.specs.Disk.{reads}
use Rattle.node.specs.Node.{NodeValue}
use Rattle.node.specs.Stock.{Stock}
use Rattle.node.specs.Wants.{Shows}
use Rattle.record_changes.specs.Records.{history_of}
use Rattle.schedule_play.specs.Stage.{IsReached}
use Rattle.shown.specs.Rule.{outline_of, shown_by}
use Rattle.shown.specs.Truth.{IsShownOf}
use Rattle.shown.specs.declared.shown.Shown.{Shown}
use Rattle.shown.specs.declared.shown.Want.{Want}
use Rattle.world_laws.specs.Stocks.{HasStock}
use Rattle.world_rules.specs.Host.{HostValue, IsHost, disk_of}
use Rattle.world_rules.specs.Spellings.{spellings}

-- WHAT IS SHOWN IS RIGHT: what the rule says, and true of the records of the book's updates
pub record IsShownIn (w : DiskScene) (q : Place) (wanted : Want) (o : Option Shown) : Type 0 where
  pub rule : option_map outline_of o
      ≡ shown_by (measures_of spellings).size w.scene.group q wanted
  pub truly : IfSome o (IsShownOf (history_of w.scene.group.committed))

-- what a node shows over its disk, being the node of a server of a scene to which steps lead
abbrev pub NodesShowRightly : Type 0
NodesShowRightly = (w : DiskScene) → IsReached spellings w → (q : Place) (k : Stock)
    (saved : List RecordFields) (h : HostValue) → h.me ≡ q
    → IsHost (w.scene.group.server q) k saved (w.disks q) h → HasStock w.scene.group q k
    → (n : NodeValue) → h.node ≡ Some n → (wanted : Want) (o : Option Shown)
    → Shows n (Some (reads (disk_of h))) wanted o → IsShownIn w q wanted o
