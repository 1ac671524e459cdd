-- A server of a played group: its node over its disk.
use Rattle.std.specs.Prelude.{◌≡◌, ◌+◌, false, List, [], drop, length, map, take, Option, None, Some, IfSome}
use Rattle.cell_cache.specs.Entries.{AreOf}
use Rattle.event_record.specs.Record.{entry_of}
use Rattle.event_record.specs.declared.record.RecordFields.{RecordFields}
use Rattle.file_tree.specs.Book.{Entry}
use Rattle.fuzzy_cells.specs.Disk.{Disk}
use Rattle.group_rules.specs.Effects.{down}
use Rattle.group_rules.specs.Places.{Place}
use Rattle.group_rules.specs.State.{Server, mark_of}
use Rattle.harp_store.specs.Disk.{Disk as ToldDisk, IsSynced, Moments, reads, set_by}
use Rattle.harp_store.specs.Mark.{MarkFields, SavedNumbers}
use Rattle.harp_store.specs.Table.{Entries, base_in}
use Rattle.harp_store.specs.declared.layers.Unsynced.{Unsynced}
use Rattle.harp_store.specs.declared.stores.SoundStore.{SoundStore}
use Rattle.node.specs.Boot.{HasBase}
use Rattle.node.specs.Node.{IsServer, NodeValue, mark_with, server}
use Rattle.node.specs.Stock.{Stock, stock}
use Rattle.power_save.specs.Saved.{HoldRecords}
use Rattle.store_laws.specs.Told.{IsDiskOf}

-- A DISK THAT IS LISTED: a table of cells, what was put and erased over it and is synced, what was
-- since, and the mark. So it is data, where a disk may be any map of cells
pub record ListedDisk : Type 0 where
  pub entries : Entries
  pub settled : List Unsynced
  pub unsynced : List Unsynced
  pub mark : Option MarkFields

-- the disk itself
abbrev pub disk_listed : ListedDisk → ToldDisk
disk_listed l = record {
  synced = λ c. set_by c l.settled (base_in l.entries c);
  unsynced = l.unsynced;
  mark = l.mark;
}

-- what a store in memory holds now, listed
abbrev pub listed : SoundStore → ListedDisk
listed s = record {
  entries = s.store.layers.table;
  settled = take s.store.layers.synced s.store.layers.changes.items;
  unsynced = drop s.store.layers.synced s.store.layers.changes.items;
  mark = s.store.layers.mark;
}

-- A server: its place, its node where it is up, and its disk
pub record HostValue : Type 0 where
  pub me : Place
  pub node : Option NodeValue
  pub disk : ListedDisk

-- its disk now
abbrev pub disk_of : HostValue → ToldDisk
disk_of h = disk_listed h.disk

-- the server with this node
abbrev pub with_node : HostValue → NodeValue → HostValue
with_node h n = record h { node = Some n }

-- and without any
abbrev pub without_node : HostValue → HostValue
without_node h = record h { node = None }

-- what its store tells: its disk, and of the moments before nothing
abbrev pub told_now : ToldDisk → Option Moments
told_now d = Some (record { past = []; now = d })

-- a server that has no record in memory
abbrev pub no_stock : Stock
no_stock = record { log = []; pulled = []; waits = [] }

-- ---- its node

-- a node that can go on: it isn't halted, it is a server that is up, and the cells that it keeps in
-- memory are those of its disk
pub record IsRunning (d : ToldDisk) (n : NodeValue) : Type 0 where
  pub up : n.halted ≡ false
  pub served : IsServer n
  pub cached : AreOf (Some (reads d)) n.cached

-- A NODE THAT RUNS is a server of the machine, with these records whole. `saved` are the records of
-- the saved log
pub record Runs (s : Server Entry) (k : Stock) (saved : List RecordFields) (q : Place)
    (d : ToldDisk) (n : NodeValue) : Type 0 where
  pub me : n.me ≡ q
  pub server : server n (map entry_of saved) ≡ s
  pub stock : stock n ≡ k
  pub mark : d.mark ≡ Some n.mark

-- a server without a node is down: of it its mark alone is left
pub record IsDown (s : Server Entry) (k : Stock) : Type 0 where
  pub server : down (mark_of s) ≡ s
  pub stock : k ≡ no_stock

abbrev pub IsNodeOf : Server Entry → Stock → List RecordFields → Place → ToldDisk
    → Option NodeValue → Type 0
IsNodeOf s k saved q d None = IsDown s k
IsNodeOf s k saved q d (Some n) = Runs s k saved q d n

-- ---- its disk

-- a disk has the records of the saved log with these numbers, and all of it is synced
pub record SavesRecords (saved : List RecordFields) (d : ToldDisk) (v : SavedNumbers) : Type 0 where
  pub top : v.top ≡ v.base + length saved
  pub synced : IsSynced d
  pub held : HoldRecords v.ring (reads d) v.base saved

-- THE MARK OF A DISK is the machine's; where it has a saved log, the disk has its records
pub record HasMark (s : Server Entry) (saved : List RecordFields) (q : Place)
    (d : ToldDisk) : Type 0 where
  pub mark : MarkFields
  pub written : d.mark ≡ Some mark
  pub machine : mark_with (map entry_of saved) mark ≡ mark_of s
  pub saves : IfSome mark.saved (SavesRecords saved d)
  pub base : HasBase q mark

-- ---- all of it

-- A NODE OVER A DISK, if there is one, is a server of the machine, with these records whole and
-- this disk of a run
pub record IsHostAt (s : Server Entry) (k : Stock) (saved : List RecordFields) (r : Disk)
    (q : Place) (o : Option NodeValue) (d : ToldDisk) : Type 0 where
  pub node : IsNodeOf s k saved q d o
  pub mark : HasMark s saved q d
  pub disk : IsDiskOf d r

abbrev pub IsHost : Server Entry → Stock → List RecordFields → Disk → HostValue → Type 0
IsHost s k saved r h = IsHostAt s k saved r h.me h.node (disk_of h)
