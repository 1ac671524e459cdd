-- What a saved log is, and when a disk has it.
use Rattle.std.specs.Prelude.{◌≡◌, ◌⊎◌, ℕ, ◌+◌, ◌-◌, ◌%◌, ◌<◌, ◌≤◌, nat_le, Bool, false, ◌&&◌, Err, IfOk, IsErr, List, map, length, slice_index_or, OnErr, OnOk, Option, Some, None, IsSome, Result}
use Rattle.event_record.specs.Bytes.{OldRecordFits, RecordFits, old_record_bytes, record_bytes}
use Rattle.event_record.specs.declared.record.RecordFields.{RecordFields}
use Rattle.harp_cells.specs.declared.cell.Cell.{Cell}
use Rattle.harp_cells.specs.declared.cell.Cell.TheVariants as cell
use Rattle.harp_cells.specs.declared.value.Value.{Value}
use Rattle.harp_cells.specs.declared.value.Value.TheVariants as value
use Rattle.harp_cells.specs.declared.change.Change.{Change}
use Rattle.harp_cells.specs.declared.change.Change.TheVariants as change
use Rattle.harp_cells.specs.Effect.{Cells}
use Rattle.harp_store.specs.Mark.{MarkFields, SavedNumbers}
use Rattle.harp_store.specs.Disk.{AfterPart, Disk, Image, IsSynced, MayLeave, Moments, after_changes, after_step, reads, synced_whole, with_mark}
use Rattle.harp_store.specs.declared.store.StoreFault.{StoreFault}
use Rattle.harp_store.specs.declared.store.StoreFault.TheVariants as store
use Rattle.power_save.specs.declared.fault.SaveFault.{SaveFault}
use Rattle.power_save.specs.declared.fault.SaveFault.TheVariants as save
use Rattle.volatile_log.specs.Log.{IsLog, LogValue, room, top}

abbrev pub fault_of : StoreFault → SaveFault
fault_of store.Failed = save.StoreFailed
fault_of store.NoMemory = save.NoMemory

-- ---- cells

-- the cell of an index, in a ring of so many cells
abbrev pub cell_in : ℕ → ℕ → Cell
cell_in ring index = cell.Saved (index % ring)

-- a value is a record: its bytes, and nothing more, or those of its old form
abbrev pub IsValueOf : Value → RecordFields → Type 0
IsValueOf (value.SavedCred bytes) r = (bytes ≡ record_bytes r) × RecordFits r
IsValueOf (value.Saved bytes) r = (bytes ≡ old_record_bytes r) × OldRecordFits r
IsValueOf (value.Meta next used stamp) r = ⊥
IsValueOf (value.Object inode) r = ⊥
IsValueOf (value.Unformed inode) r = ⊥
IsValueOf (value.Block bytes) r = ⊥
IsValueOf (value.Slot object name) r = ⊥
IsValueOf (value.Client number index reply) r = ⊥

abbrev pub HasRecord : Option Value → RecordFields → Type 0
HasRecord None r = ⊥
HasRecord (Some value) r = IsValueOf value r

-- the cell of an index has a record, and this is its index
pub record IsSavedAs (ring : ℕ) (cells : Cells) (index : ℕ) (r : RecordFields) : Type 0 where
  pub meant : HasRecord (cells (cell_in ring index)) r
  pub its : r.index ≡ index

-- cells hold the records from an index on
abbrev pub HoldRecords : ℕ → Cells → ℕ → List RecordFields → Type 0
HoldRecords ring cells base records = (k : ℕ) (d : RecordFields) → k < length records
    → IsSavedAs ring cells (base + 1 + k) (slice_index_or records k d)

-- ---- saving

-- a record is put in its cell
abbrev pub put_of : RecordFields → Change
put_of r = change.Put (cell_in room r.index) (value.SavedCred (record_bytes r))

abbrev pub puts_of : List RecordFields → List Change
puts_of records = map put_of records

-- the bounds of the fields of each record
abbrev pub AllFit : List RecordFields → Type 0
AllFit records = (k : ℕ) (d : RecordFields) → k < length records
    → RecordFits (slice_index_or records k d)

-- the mark with LB = AP and the numbers of a log that is saved in a ring of so many cells
abbrev pub saved_mark : ℕ → LogValue → MarkFields → MarkFields
saved_mark ring log mark = record mark {
  lb = log.ap;
  saved = Some (record { base = log.base; cp = log.cp; top = top log; ring = ring });
}

-- a mark without a saved log
abbrev pub IsUnsaved : Option MarkFields → Type 0
IsUnsaved None = Unit {0}
IsUnsaved (Some mark) = mark.saved ≡ None

-- all values are synced, and the cells hold the records of the log
pub record SavedOn (log : LogValue) (d : Disk) : Type 0 where
  pub synced : IsSynced d
  pub held : HoldRecords room (reads d) log.base log.records

-- the mark has no saved log, or the whole log is synced
abbrev pub IsUnsavedOrSaved : LogValue → Disk → Type 0
IsUnsavedOrSaved log d = IsUnsaved d.mark ⊎ SavedOn log d

-- THE DISK AFTER A SAVE, which may have failed, is that after a first part of its calls: some of
-- the puts, all of them and the sync, or these and this mark
abbrev pub SavesInPart : LogValue → MarkFields → Option Moments → Option Moments → Type 0
SavesInPart log mark old new = AfterPart (puts_of log.records) old new
    ⊎ ((new ≡ after_step synced_whole (after_changes (puts_of log.records) old))
    ⊎ (new ≡ after_step (with_mark mark)
    (after_step synced_whole (after_changes (puts_of log.records) old))))

-- A SAVE puts the records of a log, syncs, and then writes the mark with the numbers of the log,
-- which the mark in memory has then too; after an error a first part of these calls is made, and
-- the mark in memory is as before
pub record SavesLog {A E : Type 0} (result : Result A E) (log : LogValue)
    (before after : MarkFields) (disk left : Option Moments) : Type 0 where
  pub done : OnOk result (left ≡ after_step (with_mark (saved_mark room log before))
      (after_step synced_whole (after_changes (puts_of log.records) disk)))
  pub part : SavesInPart log (saved_mark room log before) disk left
  pub mark : OnOk result (after ≡ saved_mark room log before)
  pub kept : OnErr result (after ≡ before)

-- ---- loading

-- the mark has the numbers of a log
abbrev pub fits_log : ℕ → Option SavedNumbers → Bool
fits_log lb None = false
fits_log lb (Some s) = nat_le s.base lb && nat_le lb s.cp && nat_le s.cp s.top
    && nat_le (s.top - s.base) room

-- some index of a saved log has no record in its cell
abbrev pub LacksRecord : Cells → Option SavedNumbers → Type 0
LacksRecord cells None = ⊥
LacksRecord cells (Some s) = (index : ℕ) × (s.base < index) × (index ≤ s.top)
    × ((r : RecordFields) → IsSavedAs s.ring cells index r → ⊥)

-- the mark hasn't the numbers of a log, or a cell isn't the record of its index
abbrev pub IsNotSaved : Cells → MarkFields → Type 0
IsNotSaved cells mark = (fits_log mark.lb mark.saved ≡ false) ⊎ LacksRecord cells mark.saved

-- a log was loaded by these numbers of a mark
pub record HasNumbers (log : LogValue) (mark : MarkFields) : Type 0 where
  pub numbers : (s : SavedNumbers) → mark.saved ≡ Some s → (log.base ≡ s.base)
      × (log.cp ≡ s.cp) × (top log ≡ s.top)
  pub saved : IsSome mark.saved
  pub synced : log.lb ≡ mark.lb
  pub applied : log.ap ≡ mark.lb

-- A LOAD BY THIS MARK, of cells that are told, gives records that they hold. NotSaved comes only
-- where no log is saved whole, and there no load succeeds; where one was saved, it is this one
pub record LoadsRecords (cells : Cells) (mark : MarkFields)
    (result : Result LogValue SaveFault) : Type 0 where
  pub records : IfOk result (λ log. (s : SavedNumbers) → mark.saved ≡ Some s
      → HoldRecords s.ring cells log.base log.records)
  pub unsaved : result ≡ Err save.NotSaved → IsNotSaved cells mark
  pub whole : IsNotSaved cells mark → IsErr result
  pub found : (ring : ℕ) (saved : LogValue) (before : MarkFields) → IsLog saved
      → HoldRecords ring cells saved.base saved.records → mark ≡ saved_mark ring saved before
      → result ≡ Err save.NotSaved → ⊥
  pub again : (ring : ℕ) (saved : LogValue) (before : MarkFields) → IsLog saved
      → HoldRecords ring cells saved.base saved.records → mark ≡ saved_mark ring saved before
      → IfOk result (λ log. log ≡ record saved { lb = saved.ap })

-- a crash of a disk with a whole saved log leaves its records
abbrev pub CrashesKeep : Type 0
CrashesKeep = (log : LogValue) (d : Disk) (image : Image) → SavedOn log d → MayLeave d image
    → HoldRecords room image.cells log.base log.records
