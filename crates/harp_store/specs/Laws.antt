-- Laws of disks, crashes and moments.
use Rattle.std.specs.Prelude.{◌≡◌, ℕ, ◌-◌, Bool, true, false, ◌&&◌, ◌==◌, nat_le, List, take, All, Option, Some, None}
use Rattle.harp_cells.specs.declared.cell.Cell.{Cell}
use Rattle.harp_cells.specs.declared.value.Value.{Value}
use Rattle.harp_cells.specs.declared.change.Change.{Change}
use Rattle.harp_cells.specs.declared.change.Change.TheVariants as change
use Rattle.harp_cells.specs.Effect.{changed, key}
use Rattle.harp_store.specs.Disk.{AfterPart, IsAfterPart, IsLeftInPart, IsSynced, MayLeave, reads, AtEachMoment, Disk, Moments, Image, MayHold, MayHoldInPart, MayLeaveOne, MightHaveLeft, block_numbers, blocks_there, changed_by, changed_by_all, erasures, moment, synced_whole, with_unsynced, without_from}

-- what a crash at some moment of a run might have left, a disk may leave that has what each disk
-- of the run has
abbrev pub ImagesAreOf : (Disk → Type 0) → Type 0
ImagesAreOf P = (old new : Moments) (image : Image) → AtEachMoment P (Some old) (Some new)
    → MightHaveLeft new (moment old) image
    → MayLeaveOne P image

-- two runs, one after the other
abbrev pub RunsJoin : (Disk → Type 0) → Type 0
RunsJoin P = (old mid new : Option Moments) → AtEachMoment P old mid → AtEachMoment P mid new
    → AtEachMoment P old new

-- what a crash may leave of a cell after the first k changes
abbrev pub ChangesHold : Type 0
ChangesHold = (changes : List Change) (k : ℕ) (d : Disk) (c : Cell) (value : Option Value)
    → MayHold (changed_by_all (take k changes) d) c value
    → MayHoldInPart (take k changes) d c value

-- a crash of a disk whose values are all synced leaves what reads give
abbrev pub SyncedStay : Type 0
SyncedStay = (d : Disk) (image : Image) → IsSynced d → MayLeave d image → (c : Cell)
    → image.cells c ≡ reads d c

-- what a crash in the middle of changes may leave
abbrev pub PartsLeave : Type 0
PartsLeave = (changes : List Change) (d e : Disk) (image : Image) → IsAfterPart changes d e
    → MayLeave e image → IsLeftInPart changes d image

-- at each moment of changes the disk is one after a first part of them
abbrev pub PartsAreMoments : Type 0
PartsAreMoments = (changes : List Change) (h : Moments) (new : Option Moments)
    → AfterPart changes (Some h) new → AtEachMoment (IsAfterPart changes h.now) (Some h) new

-- reads give each cell as a change makes it
abbrev pub ReadsChange : Type 0
ReadsChange = (x : Change) (d : Disk) (c : Cell) → reads (changed_by x d) c
    ≡ changed c (reads d c) x

-- ---- disks as stores have them

-- a block behind the last number
unfoldable pub is_behind : Cell → Bool
is_behind c = ((key c).0 == 3) && nat_le block_numbers (key c).2

-- no such block has a value, or had one since the last sync
pub record IsNumbered (d : Disk) : Type 0 where
  pub synced : (c : Cell) → is_behind c ≡ true → d.synced c ≡ None
  pub unsynced : All (λ u. is_behind u.cell ≡ true → u.value ≡ None) d.unsynced

-- a change puts nothing in such a block
abbrev pub PutsNumbered : Change → Type 0
PutsNumbered (change.Put cell value) = is_behind cell ≡ false
PutsNumbered (change.Erase cell) = Unit {0}
PutsNumbered (change.EraseFrom object first) = Unit {0}

-- an erasure of blocks adds one of each block that is there, ascending, and does nothing else
abbrev pub ErasuresAreAdded : Type 0
ErasuresAreAdded = (object first : ℕ) (d : Disk) → IsNumbered d → without_from object first d
    ≡ with_unsynced (erasures object (blocks_there (block_numbers - first) (reads d) object first)) d

-- changes and syncs keep a disk so
abbrev pub NumberedStay : Type 0
NumberedStay = (x : Change) (d : Disk) → IsNumbered d → PutsNumbered x
    → IsNumbered (changed_by x d)

abbrev pub NumberedAreSynced : Type 0
NumberedAreSynced = (d : Disk) → IsNumbered d → IsNumbered (synced_whole d)
