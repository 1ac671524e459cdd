-- What holds of disks whose cells are fuzzy.
use Rattle.std.specs.Prelude.{◌≡◌, ℕ, ◌≤◌, true, List, [], take, max, Option}
use Rattle.std.specs.List.{list_all}
use Rattle.harp_cells.specs.declared.change.Change.{Change}
use Rattle.harp_store.specs.Mark.{MarkFields}
use Rattle.harp_store.specs.Disk.{Disk, Image, IsAfterPart, IsLeftOf, MayLeave, changed_by_all, reads, synced_whole, with_mark}
use Rattle.fuzzy_cells.specs.History.{AllSetOnce, History, between, cells_at, no_cells}
use Rattle.fuzzy_cells.specs.Fuzzy.{AreAlike, IsFuzzy}
use Rattle.fuzzy_cells.specs.Disk.{changes_saved}
use Rattle.applier.specs.FuzzyDisk.{IsFuzzyDisk}

-- a disk without a cell
abbrev pub bare_disk : Option MarkFields → Disk
bare_disk mark = record { synced = no_cells; unsynced = []; mark = mark }

abbrev pub NewDisksAreFuzzy : Type 0
NewDisksAreFuzzy = (history : History) (mark : Option MarkFields)
    → IsFuzzyDisk history 0 0 0 (bare_disk mark)

-- APPLY: the changes of the records after AP up to k are made, whatever the cells hold
abbrev pub AppliedDisksAreFuzzy : Type 0
AppliedDisksAreFuzzy = (history : History) (lb ap m k : ℕ) (d : Disk) → AllSetOnce history
    → IsFuzzyDisk history lb ap m d → ap ≤ k
    → IsFuzzyDisk history lb k (max m k) (changed_by_all (between history ap k) d)

-- at each moment of it, also where it is cut off in the middle of a record
abbrev pub CutDisksAreFuzzy : Type 0
CutDisksAreFuzzy = (history : History) (lb ap m k : ℕ) (d e : Disk) → AllSetOnce history
    → IsFuzzyDisk history lb ap m d → ap ≤ k → IsAfterPart (between history ap k) d e
    → IsFuzzyDisk history lb ap (max m k) e

-- once all is applied that the cells may have been ahead, reads give each cell exactly
abbrev pub GoneOverIsExact : Type 0
GoneOverIsExact = (history : History) (lb ap m : ℕ) (d : Disk) → IsFuzzyDisk history lb ap m d
    → m ≤ ap → AreAlike (reads d) (cells_at history ap)

-- SYNC: the mark may have LB = AP then, or still the old LB
abbrev pub SyncedDisksAreFuzzy : Type 0
SyncedDisksAreFuzzy = (history : History) (lb ap m : ℕ) (d : Disk)
    → IsFuzzyDisk history lb ap m d
    → IsFuzzyDisk history lb ap m (synced_whole d) × IsFuzzyDisk history ap ap m (synced_whole d)

abbrev pub MarkedDisksAreFuzzy : Type 0
MarkedDisksAreFuzzy = (history : History) (lb ap m : ℕ) (mark : MarkFields) (d : Disk)
    → IsFuzzyDisk history lb ap m d → IsFuzzyDisk history lb ap m (with_mark mark d)

-- CRASH: each image that it may leave is fuzzy between LB and m
abbrev pub ImagesAreFuzzy : Type 0
ImagesAreFuzzy = (history : History) (lb ap m : ℕ) (d : Disk) (image : Image)
    → IsFuzzyDisk history lb ap m d → MayLeave d image → IsFuzzy history lb m image.cells

-- CRASH AND BOOT: the log begins again with AP = LB
abbrev pub CrashedDisksAreFuzzy : Type 0
CrashedDisksAreFuzzy = (history : History) (lb ap m : ℕ) (d left : Disk)
    → IsFuzzyDisk history lb ap m d → IsLeftOf d left → IsFuzzyDisk history lb lb m left

-- POWER FAILURE: a log is saved beside, be it in part
abbrev pub SavedDisksAreFuzzy : Type 0
SavedDisksAreFuzzy = (history : History) (lb ap m : ℕ) (changes : List Change) (d e : Disk)
    → list_all changes_saved changes ≡ true → IsFuzzyDisk history lb ap m d
    → IsAfterPart changes d e → IsFuzzyDisk history lb ap m e

-- another history may stand for it that has the same first m records
abbrev pub DisksAreProlonged : Type 0
DisksAreProlonged = (history other : History) (lb ap m : ℕ) (d : Disk)
    → IsFuzzyDisk history lb ap m d → take m history ≡ take m other
    → IsFuzzyDisk other lb ap m d
