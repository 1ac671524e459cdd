-- What a host makes of a step, at the place of its server.
use Rattle.std.proofs.Common.{◌≡◌, ℕ, true, false, List, Option, None, subst}
use Rattle.event_record.specs.declared.record.RecordFields.{RecordFields}
use Rattle.file_tree.specs.Book.{Entry}
use Rattle.fuzzy_cells.specs.Disk.{Disk}
use Rattle.group_trace.specs.DiskRun.{disk_after}
use Rattle.group_rules.specs.Places.{Place}
use Rattle.group_rules.specs.State.{Group}
use Rattle.group_rules.specs.Step.{Crash, Does, Input as Begins}
use Rattle.harp_types.specs.declared.pick.Pick.{Pick}
use Rattle.world_rules.specs.Host.{HostValue, IsHost, no_stock}
use Rattle.world_rules.specs.Spellings.{spellings}
use Rattle.world_rules.specs.Steps.{Boots, CanFail, CanTake, Fails, Falls, HostBoots, HostFails, HostFalls, HostTakes, IsStop, Takes}
use Rattle.world_rules.specs.declared.stop.Stop.{Stop}
use Rattle.node.specs.Stock.{Stock}
use Rattle.node.specs.declared.input.Input.{Input}
use Rattle.node_outputs.specs.declared.outputs.Outputs.{Outputs}

pub takes_at : (q : Place) (old new : HostValue) (given : Input) (now : ℕ) (stop : Option Stop)
    (outs : Option Outputs) → old.me ≡ q → HostTakes old new given now stop outs
    → (g : Group Entry) (most : Option ℕ) (pick : Pick) (i : Begins) (k : Stock)
    (saved : List RecordFields) (r : Disk) → IsHost (g.server q) k saved r old
    → (g.server q).up ≡ true → g.clock q ≡ now → IsStop stop most pick
    → CanTake g q given i r old → Takes g most pick q given i k saved r new outs
takes_at q old new given now stop outs me h = subst (λ (p : Place).
    (g : Group Entry) (most : Option ℕ) (pick : Pick) (i : Begins) (k : Stock)
    (saved : List RecordFields) (r : Disk) → IsHost (g.server p) k saved r old
    → (g.server p).up ≡ true → g.clock p ≡ now → IsStop stop most pick
    → CanTake g p given i r old → Takes g most pick p given i k saved r new outs) me h

pub fails_at : (q : Place) (old new : HostValue) (stop : Option Stop) → old.me ≡ q
    → HostFails old new stop → (g : Group Entry) (most : Option ℕ) (pick : Pick) (k : Stock)
    (saved : List RecordFields) (r : Disk) → IsHost (g.server q) k saved r old
    → (g.server q).up ≡ true → IsStop stop most pick → CanFail g q r
    → Fails g most pick q k saved r new
fails_at q old new stop me h = subst (λ (p : Place).
    (g : Group Entry) (most : Option ℕ) (pick : Pick) (k : Stock)
    (saved : List RecordFields) (r : Disk) → IsHost (g.server p) k saved r old
    → (g.server p).up ≡ true → IsStop stop most pick → CanFail g p r
    → Fails g most pick p k saved r new) me h

pub falls_at : (q : Place) (old new : HostValue) (by : Pick) → old.me ≡ q
    → HostFalls old new by → (g : Group Entry) (pick : Pick) (k : Stock)
    (saved : List RecordFields) (r : Disk) → IsHost (g.server q) k saved r old → pick ≡ by
    → Falls (g.server q) saved (disk_after spellings g None pick q (Does Crash) r) new
falls_at q old new by me h = subst (λ (p : Place). (g : Group Entry) (pick : Pick) (k : Stock)
    (saved : List RecordFields) (r : Disk) → IsHost (g.server p) k saved r old → pick ≡ by
    → Falls (g.server p) saved (disk_after spellings g None pick p (Does Crash) r) new) me h

pub boots_at : (q : Place) (old new : HostValue) (now delta : ℕ) → old.me ≡ q
    → HostBoots old new now delta → (g : Group Entry) (saved : List RecordFields) (r : Disk)
    → IsHost (g.server q) no_stock saved r old → (g.server q).up ≡ false
    → g.clock q ≡ now → g.delta ≡ delta → Boots g q saved r new
boots_at q old new now delta me h = subst (λ (p : Place).
    (g : Group Entry) (saved : List RecordFields) (r : Disk)
    → IsHost (g.server p) no_stock saved r old → (g.server p).up ≡ false
    → g.clock p ≡ now → g.delta ≡ delta → Boots g p saved r new) me h
