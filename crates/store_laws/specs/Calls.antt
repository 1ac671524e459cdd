-- The calls of a store, beside those of a run's step.
use Rattle.std.specs.Prelude.{◌≡◌, ℕ, false, List, [], ◌∷◌, ◌++◌, map, take, Option, Some, None}
use Rattle.trace_laws.specs.DiskLaws.{HasFewBlocks}
use Rattle.fuzzy_cells.specs.Disk.{Disk}
use Rattle.fuzzy_cells.specs.Fuzzy.{is_saved}
use Rattle.group_trace.specs.DiskCalls.{Changing, DiskCall, Marking, Syncing, after_calls}
use Rattle.harp_cells.specs.declared.change.Change.{Change}
use Rattle.harp_cells.specs.declared.change.Change.TheVariants as change
use Rattle.harp_store.specs.Disk.{Disk as ToldDisk, Moments, after_step, changed_by, synced_whole, with_mark}
use Rattle.harp_store.specs.Mark.{MarkFields}
use Rattle.power_save.specs.Saved.{puts_of}
use Rattle.volatile_log.specs.Log.{LogValue}

-- a change of cells is this one, but for the value that is put in a cell of a saved log
abbrev pub IsChangeOf : Change → Change → Type 0
IsChangeOf (change.Put cell value) (change.Put place other) =
    (cell ≡ place) × (is_saved place ≡ false → value ≡ other)
IsChangeOf (change.Put cell value) x = ⊥
IsChangeOf (change.Erase cell) x = x ≡ change.Erase cell
IsChangeOf (change.EraseFrom object first) x = x ≡ change.EraseFrom object first

-- a call of a store that changes its disk: a change of cells, a sync, or the writing of this mark
pub data StoreCall : Type 0 where
  Makes : Change → StoreCall
  Syncs : StoreCall
  Writes : MarkFields → StoreCall

-- the disk after it
abbrev pub called : StoreCall → ToldDisk → ToldDisk
called (Makes x) d = changed_by x d
called Syncs d = synced_whole d
called (Writes mark) d = with_mark mark d

-- what is told after calls, one after the other
unfoldable pub told_after : List StoreCall → Option Moments → Option Moments
told_after [] told = told
told_after (c ∷ cs) told = told_after cs (after_step (called c) told)

-- a call of a store is this one of a run, whatever mark it writes
abbrev pub IsCallOf : StoreCall → DiskCall → Type 0
IsCallOf (Makes x) (Changing y) = IsChangeOf x y
IsCallOf Syncs Syncing = Unit {0}
IsCallOf (Writes mark) Marking = Unit {0}
IsCallOf c call = ⊥

-- the first calls that a stop lets pass
abbrev pub passing : Option ℕ → List StoreCall → List StoreCall
passing None calls = calls
passing (Some most) calls = take most calls

-- the calls of a save: the records' changes, a sync, and the mark
abbrev pub save_calls : LogValue → MarkFields → List StoreCall
save_calls log mark = map Makes (puts_of log.records) ++ Syncs ∷ Writes mark ∷ []

-- the calls of a flush: a sync, and the mark
abbrev pub flush_calls : MarkFields → List StoreCall
flush_calls mark = Syncs ∷ Writes mark ∷ []

-- after any first calls of these a run's disk has few blocks
abbrev pub HaveFewBlocks : List DiskCall → Disk → Type 0
HaveFewBlocks calls r = (k : ℕ) → HasFewBlocks (after_calls (take k calls) r)
