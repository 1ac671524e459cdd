-- What holds of a disk whose cells are fuzzy.
use Rattle.std.specs.Prelude.{◌≡◌, ℕ, ◌≤◌, true, List, take, max}
use Rattle.std.specs.List.{list_all}
use Rattle.harp_cells.specs.declared.change.Change.{Change}
use Rattle.harp_cells.specs.Effect.{Cells}
use Rattle.fuzzy_cells.specs.History.{AllSetOnce, History, between, no_cells}
use Rattle.fuzzy_cells.specs.Fuzzy.{MayBeLeft}
use Rattle.fuzzy_cells.specs.Disk.{Disk, IsBetween, changes_saved, reads, synced_to, with_changes}

-- a new disk has no cells
abbrev pub NewDisksAreBetween : Type 0
NewDisksAreBetween = (history : History) → IsBetween history 0 0 0 (synced_to no_cells)

-- APPLY: the records after AP up to k go to the disk
abbrev pub AppliedIsBetween : Type 0
AppliedIsBetween = (history : History) (lb ap m k : ℕ) (disk : Disk) → AllSetOnce history
    → IsBetween history lb ap m disk
    → ap ≤ k → IsBetween history lb k (max m k) (with_changes disk (between history ap k))

-- at each moment of it, also where it is cut off
abbrev pub CutIsBetween : Type 0
CutIsBetween = (history : History) (lb ap m k n : ℕ) (disk : Disk) → AllSetOnce history
    → IsBetween history lb ap m disk
    → ap ≤ k
    → IsBetween history lb ap (max m k) (with_changes disk (take n (between history ap k)))

-- FLUSH: after a sync the mark may have LB = AP, or still the old LB
abbrev pub SyncedIsBetween : Type 0
SyncedIsBetween = (history : History) (lb ap m : ℕ) (disk : Disk) → IsBetween history lb ap m disk
    → IsBetween history lb ap m (synced_to (reads disk))
    × IsBetween history ap ap m (synced_to (reads disk))

-- CRASH AND BOOT: the log begins again with AP = LB
abbrev pub CrashedIsBetween : Type 0
CrashedIsBetween = (history : History) (lb ap m : ℕ) (disk : Disk) (left : Cells)
    → IsBetween history lb ap m disk
    → MayBeLeft disk.synced disk.changes left → IsBetween history lb lb m (synced_to left)

-- POWER FAILURE: a log is saved beside
abbrev pub SavedIsBetween : Type 0
SavedIsBetween = (history : History) (lb ap m : ℕ) (disk : Disk) (more : List Change)
    → IsBetween history lb ap m disk
    → list_all changes_saved more ≡ true → IsBetween history lb ap m (with_changes disk more)

-- another history may stand for it that has the same first m records
abbrev pub DiskIsProlonged : Type 0
DiskIsProlonged = (history other : History) (lb ap m : ℕ) (disk : Disk)
    → IsBetween history lb ap m disk
    → take m history ≡ take m other → IsBetween other lb ap m disk
