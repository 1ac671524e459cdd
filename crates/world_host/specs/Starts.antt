-- What a boot makes of a server's disk, which may be a new one.
use Rattle.std.specs.Prelude.{◌≡◌, ℕ, List, map, Some, if◌then◌else◌}
use Rattle.event_record.specs.Record.{entry_of}
use Rattle.event_record.specs.declared.record.RecordFields.{RecordFields}
use Rattle.group_rules.specs.Effects.{booted}
use Rattle.group_rules.specs.Names.{id_of}
use Rattle.harp_store.specs.Disk.{Disk, reads}
use Rattle.harp_store.specs.Mark.{MarkFields}
use Rattle.node.specs.Boot.{HasBase, HoldWhole, boot_mark, booted_disk, booted_stock, has_boot_mark, mark_before}
use Rattle.node.specs.Node.{IsServer, NodeValue, server}
use Rattle.node.specs.Stock.{stock}
use Rattle.world_rules.specs.Host.{HostValue, disk_of}

-- the mark that a server goes on from
abbrev pub start_mark : HostValue → (delta : ℕ) → MarkFields
start_mark h delta = boot_mark (id_of h.me) delta (disk_of h).mark

-- its disk with that mark
abbrev pub start_disk : HostValue → (delta : ℕ) → Disk
start_disk h delta = if has_boot_mark delta (disk_of h).mark then disk_of h
    else booted_disk (id_of h.me) delta (disk_of h)

-- A SERVER STARTS with these records in its saved log
pub record Starts (now delta : ℕ) (saved : List RecordFields) (old new : HostValue) : Type 0 where
  pub node : NodeValue
  pub runs : new.node ≡ Some node
  pub me : node.me ≡ old.me
  pub served : IsServer node
  pub server : server node (map entry_of saved) ≡ booted old.me now delta
      (mark_before (id_of old.me) delta (map entry_of saved) (disk_of old).mark)
  pub stock : stock node ≡ booted_stock node.plain saved
  pub mark : node.mark ≡ start_mark old delta
  pub disk : disk_of new ≡ start_disk old delta

-- where its disk has the records of the mark's saved log, whole
abbrev pub HostStarts : (old new : HostValue) → (now delta : ℕ) → Type 0
HostStarts old new now delta = (saved : List RecordFields)
    → HoldWhole (reads (disk_of old)) (start_mark old delta) saved
    → HasBase old.me (start_mark old delta)
    → Starts now delta saved old new
