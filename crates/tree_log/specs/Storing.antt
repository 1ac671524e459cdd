-- What stands of a log, its mark and its store behind a call, whether it went well or failed.
use Rattle.std.specs.Prelude.{◌≡◌, ◌≤◌, ℕ, List, OnErr, OnOk, Option, Result, Some}
use Rattle.applier.specs.Applied.{AfterPart, FlushesInPart, after_changes, flushed, lower}
use Rattle.applier.specs.Fuzzy.{IsFuzzyTo, StaysFuzzy}
use Rattle.applier.specs.FuzzyDisk.{AreRecordsOf, IsFuzzyDisk}
use Rattle.cell_cache.specs.Entries.{AreOf, Entries}
use Rattle.fuzzy_cells.specs.History.{AllSetOnce, History}
use Rattle.harp_cells.specs.declared.change.Change.{Change}
use Rattle.harp_store.specs.Disk.{Moments, Now, cells_told}
use Rattle.harp_store.specs.Mark.{MarkFields}
use Rattle.harp_types.specs.Streams.{Rose}
use Rattle.tree_log.specs.Applying.{applied_by}
use Rattle.tree_log.specs.TreeLog.{changes_in}
use Rattle.volatile_log.specs.Log.{LogValue, lowered_to}

-- OF THE FAULTS: a call says that it failed only where the count of faults rose, and it never falls
pub record CountsFaults (failed : Type 0) (faults risen : ℕ) : Type 0 where
  pub rose : failed → Rose faults risen
  pub count : faults ≤ risen

-- A call that reads cells leaves the disk, and the cells in memory are the disk's
pub record OnlyReads (disk left : Option Moments) (entries : Entries) : Type 0 where
  pub kept : left ≡ disk
  pub cached : AreOf (cells_told left) entries

-- ---- applying

-- AN APPLY makes these changes, or, after an error, a first part of them
pub record MakesChanges {A E : Type 0} (result : Result A E) (changes : List Change)
    (disk left : Option Moments) : Type 0 where
  pub done : OnOk result (left ≡ after_changes changes disk)
  pub part : AfterPart changes disk left

-- A disk that is fuzzy stays so at each moment of applying at most so many records of the log; once
-- they are applied, it is so from the new AP on
pub record AppliesFuzzy {A E : Type 0} (result : Result A E) (most : ℕ) (log : LogValue)
    (disk left : Option Moments) : Type 0 where
  pub fuzzy : (history : History) (lb m : ℕ) (h : Moments) → disk ≡ Some h → AllSetOnce history
      → AreRecordsOf history log.base (changes_in log.records)
      → IsFuzzyDisk history lb log.ap m h.now
      → StaysFuzzy history lb log.ap (applied_by most log) m h left
  pub reached : (history : History) (lb m : ℕ) (h : Moments) → disk ≡ Some h
      → AllSetOnce history → AreRecordsOf history log.base (changes_in log.records)
      → IsFuzzyDisk history lb log.ap m h.now
      → OnOk result (Now (IsFuzzyTo history lb (applied_by most log) m) left)

-- ---- flushing

-- A FLUSH lowers LB to AP in the log; after an error the log is as before
pub record Lowers {A E : Type 0} (result : Result A E) (old new : LogValue) : Type 0 where
  pub log : OnOk result (new ≡ lowered_to old old.ap)
  pub still : OnErr result (new ≡ old)

-- It syncs the cells, and then writes the mark with this LB, which the mark in memory has then too;
-- after an error a first part of the two is there, and the mark in memory is as before
pub record FlushesUpTo {A E : Type 0} (result : Result A E) (ap : ℕ) (before after : MarkFields)
    (disk left : Option Moments) : Type 0 where
  pub done : OnOk result (left ≡ flushed (lower ap before) disk)
  pub part : FlushesInPart (lower ap before) disk left
  pub mark : OnOk result (after ≡ lower ap before)
  pub kept : OnErr result (after ≡ before)
