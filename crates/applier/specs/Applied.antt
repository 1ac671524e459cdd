-- What applying and flushing make of a disk.
use Rattle.std.specs.Prelude.{◌≡◌, ◌⊎◌, ℕ, ◌+◌, ◌-◌, List, [], take, drop, slice_index_or, Option, Some}
use Rattle.std.specs.List.{flat_map}
use Rattle.harp_cells.specs.declared.change.Change.{Change}
unfoldable pub use Rattle.harp_store.specs.Disk.{after_changes}
pub use Rattle.harp_store.specs.Disk.{AfterPart, IsAfterPart, IsLeftInPart, CrashesLeave}
use Rattle.harp_store.specs.Mark.{MarkFields}
use Rattle.harp_store.specs.Disk.{AtEachMoment, Disk, Moments, after_step, cells_told, synced_whole, with_mark, IsSynced}

-- ---- applying

-- the changes of the records after one index up to another, one after the other
abbrev pub changes_between : ℕ → List (List Change) → ℕ → ℕ → List Change
changes_between base records from to = flat_map (λ changes. changes) (take (to - from) (drop
    (from - base) records))

-- ---- flushing

-- the mark with this index as the one up to which the disk has all updates
abbrev pub lower : ℕ → MarkFields → MarkFields
lower ap mark = record mark { lb = ap }

-- all cells are synced, and then the mark is written
abbrev pub flushed : MarkFields → Option Moments → Option Moments
flushed mark told = after_step (with_mark mark) (after_step synced_whole told)

-- the mark is still this one, or all cells are synced
abbrev pub IsOldOrSynced : Option MarkFields → Disk → Type 0
IsOldOrSynced mark d = (d.mark ≡ mark) ⊎ IsSynced d

-- THE DISK AFTER A FLUSH, which may have failed, is that after a first part of its two calls: none
-- of them, the sync, or the sync and this mark
abbrev pub FlushesInPart : MarkFields → Option Moments → Option Moments → Type 0
FlushesInPart mark old new = (new ≡ old) ⊎ ((new ≡ after_step synced_whole old)
    ⊎ (new ≡ flushed mark old))

-- no cell changes, and at each moment the mark is the old one, or all cells are synced
pub record FlushesAtOnce (old new : Option Moments) : Type 0 where
  pub cells : cells_told new ≡ cells_told old
  pub moments : (h : Moments) → old ≡ Some h → AtEachMoment (IsOldOrSynced h.now.mark) old new

-- so it is after each part of a flush
abbrev pub PartsFlushAtOnce : Type 0
PartsFlushAtOnce = (mark : MarkFields) (old new : Option Moments) → FlushesInPart mark old new
    → FlushesAtOnce old new

-- ---- a record

-- the changes of a record
abbrev pub changes_at : ℕ → List (List Change) → ℕ → List Change
changes_at base records index = slice_index_or records (index - (base + 1)) []
