-- Saved logs as the group's machine has them: by their entries.
use Rattle.std.specs.Prelude.{◌≡◌, ℕ, ◌+◌, true, false, Err, IfOk, List, map, length, OnOk, Result, Some}
use Rattle.event_record.specs.Record.{entry_of}
use Rattle.event_record.specs.declared.record.RecordFields.{RecordFields}
use Rattle.file_tree.specs.Book.{Entry}
use Rattle.group_rules.specs.Effects.{load_tests}
use Rattle.group_rules.specs.Places.{all_of}
use Rattle.group_rules.specs.State.{Saved}
use Rattle.harp_cells.specs.Effect.{Cells}
use Rattle.harp_store.specs.Disk.{Disk, Image, IsSynced, MayLeave, reads}
use Rattle.harp_store.specs.Mark.{MarkFields}
use Rattle.power_save.specs.Saved.{HoldRecords}
use Rattle.power_save.specs.declared.fault.SaveFault.{SaveFault}
use Rattle.power_save.specs.declared.fault.SaveFault.TheVariants.{NotSaved}
use Rattle.volatile_log.specs.Log.{LogValue}

-- a log, as the machine saves it
abbrev pub saved_entries : LogValue → Saved Entry
saved_entries log = record { base = log.base; cp = log.cp; items = map entry_of log.records }

-- the mark has the numbers of the machine's saved log, and the cells hold records of its entries
pub record HoldEntries (cells : Cells) (mark : MarkFields) (saved : Saved Entry) : Type 0 where
  pub ring : ℕ
  pub numbers : mark.saved ≡ Some (record {
    base = saved.base;
    cp = saved.cp;
    top = saved.base + length saved.items;
    ring = ring;
  })
  pub records : List RecordFields
  pub held : HoldRecords ring cells saved.base records
  pub entries : map entry_of records ≡ saved.items

-- a disk has the machine's saved log, and all values are synced
pub record HasSaved (saved : Saved Entry) (d : Disk) : Type 0 where
  pub synced : IsSynced d
  pub mark : MarkFields
  pub marked : d.mark ≡ Some mark
  pub held : HoldEntries (reads d) mark saved

-- a log is the machine's saved one, flushed and applied up to n
pub record IsLoaded (saved : Saved Entry) (n : ℕ) (log : LogValue) : Type 0 where
  pub entries : saved_entries log ≡ saved
  pub lb : log.lb ≡ n
  pub ap : log.ap ≡ n

-- A LOAD BY THIS MARK, where the cells hold the machine's saved log, gives that log where the
-- machine's boot takes it; NotSaved comes only where the boot doesn't
pub record LoadsEntries (cells : Cells) (mark : MarkFields) (result : Result LogValue SaveFault)
    (saved : Saved Entry) : Type 0 where
  pub loaded : IfOk result (λ log. IsLoaded saved mark.lb log)
  pub taken : OnOk result (all_of (load_tests mark.lb saved) ≡ true)
  pub refused : result ≡ Err NotSaved → all_of (load_tests mark.lb saved) ≡ false

-- a crash of a disk that has the machine's saved log leaves it
abbrev pub CrashesKeepEntries : Type 0
CrashesKeepEntries = (saved : Saved Entry) (d : Disk) (image : Image) → HasSaved saved d
    → MayLeave d image
    → (mark : MarkFields) × (image.mark ≡ Some mark) × HoldEntries image.cells mark saved
