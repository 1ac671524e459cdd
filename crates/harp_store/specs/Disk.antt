-- What a disk holds at one moment, what a crash may leave of it, and what each call makes of it.
use Rattle.std.specs.Prelude.{◌≡◌, ◌⊎◌, ℕ, zero, suc, ◌-◌, ◌^◌, max, List, [], ◌∷◌, ◌++◌, map, fold, length, take, drop, ◌≤◌, All, Any, Option, Some, None, is_some, if◌then◌else◌}
use Rattle.harp_cells.specs.declared.cell.Cell.{Cell}
use Rattle.harp_cells.specs.declared.cell.Cell.TheVariants as cell
use Rattle.harp_cells.specs.declared.value.Value.{Value}
use Rattle.harp_cells.specs.declared.change.Change.{Change}
use Rattle.harp_cells.specs.declared.change.Change.TheVariants as change
use Rattle.harp_cells.specs.Effect.{Cells, after, is_cell, is_block_from}
use Rattle.harp_store.specs.Mark.{MarkFields}
use Rattle.harp_store.specs.declared.layers.Unsynced.{Unsynced}

-- ---- a disk

-- a disk at one moment: what the last sync left in each cell, what was put or erased since, in
-- order, and the mark
pub record Disk : Type 0 where
  pub synced : Cells
  pub unsynced : List Unsynced
  pub mark : Option MarkFields

-- the values that were put or erased in a cell
unfoldable pub values_of : Cell → List Unsynced → List (Option Value)
values_of c [] = []
values_of c (u ∷ us) = if is_cell u.cell c then u.value ∷ values_of c us else values_of c us

-- what puts and erasures make of a cell
unfoldable pub set_by : Cell → List Unsynced → Option Value → Option Value
set_by c us held = fold (λ h u. if is_cell u.cell c then u.value else h) held us

-- what reads give
unfoldable pub reads : Disk → Cells
reads d c = set_by c d.unsynced (d.synced c)

-- every value is synced
abbrev pub IsSynced : Disk → Type 0
IsSynced d = d.unsynced ≡ []

-- ---- what a crash leaves

-- what a crash left: the cells and the mark
pub record Image : Type 0 where
  pub cells : Cells
  pub mark : Option MarkFields

-- a crash may leave this value of a cell: that of the last sync, or any put or erased since
abbrev pub MayHold : Disk → Cell → Option Value → Type 0
MayHold d c value = Any (λ v. v ≡ value) (d.synced c ∷ values_of c d.unsynced)

-- a crash at this moment may leave this image; each cell goes its own way
pub record MayLeave (d : Disk) (image : Image) : Type 0 where
  pub cells : (c : Cell) → MayHold d c (image.cells c)
  pub mark : image.mark ≡ d.mark

-- what a crash left of a disk is an image that it may leave, and each value of it is synced
pub record IsLeftOf (d left : Disk) : Type 0 where
  pub image : MayLeave d (record { cells = left.synced; mark = left.mark })
  pub synced : IsSynced left

-- ---- what calls make of a disk

-- puts and erasures are made, behind those before
abbrev pub with_unsynced : List Unsynced → Disk → Disk
with_unsynced more d = record {
  synced = d.synced;
  unsynced = d.unsynced ++ more;
  mark = d.mark;
}

-- a value is put in a cell, or its value is erased
abbrev pub with_value : Cell → Option Value → Disk → Disk
with_value cell value d = with_unsynced (record { cell = cell; value = value } ∷ []) d

-- the number of each block of a store is below this
unfoldable pub block_numbers : ℕ
block_numbers = 2 ^ 32

-- the blocks of an object that hold a value, of so many from one on, ascending
unfoldable pub blocks_there : ℕ → Cells → ℕ → ℕ → List ℕ
blocks_there zero cells object block = []
blocks_there (suc more) cells object block =
    if is_some (cells (cell.Block object block))
    then block ∷ blocks_there more cells object (suc block)
    else blocks_there more cells object (suc block)

-- an erasure of each of these blocks
abbrev pub erasures : ℕ → List ℕ → List Unsynced
erasures object blocks = map (λ block. record { cell = cell.Block object block; value = None })
    blocks

-- the disk as if no block of the object from one on had ever held a value
abbrev pub bare_from : ℕ → ℕ → Disk → Disk
bare_from object first d = record {
  synced = λ c. if is_block_from object first c then None else d.synced c;
  unsynced = map (λ u. record {
    cell = u.cell;
    value = if is_block_from object first u.cell then None else u.value;
  }) d.unsynced;
  mark = d.mark;
}

-- each block that is there, from the first on, is erased, ascending. The cells of a disk are any
-- map: of a block behind the last number, which no store can have, no value is left at once
abbrev pub without_from : ℕ → ℕ → Disk → Disk
without_from object first d =
    with_unsynced (erasures object (blocks_there (block_numbers - first) (reads d) object first))
    (bare_from object (max first block_numbers) d)

-- a change of cells is made
abbrev pub changed_by : Change → Disk → Disk
changed_by (change.Put cell value) d = with_value cell (Some value) d
changed_by (change.Erase cell) d = with_value cell None d
changed_by (change.EraseFrom object first) d = without_from object first d

-- changes of cells are made, one after the other
unfoldable pub changed_by_all : List Change → Disk → Disk
changed_by_all changes d = fold (λ e change. changed_by change e) d changes

-- a crash after some of these changes may leave of a cell what it may leave before them, or what
-- reads give after some first ones
abbrev pub MayHoldInPart : List Change → Disk → Cell → Option Value → Type 0
MayHoldInPart changes d c value = MayHold d c value ⊎ ((n : ℕ) × (n ≤ length changes) × (value
    ≡ after (take n changes) (reads d) c))

-- every value is synced
abbrev pub synced_whole : Disk → Disk
synced_whole d = record { synced = reads d; unsynced = []; mark = d.mark }

-- the mark is written
abbrev pub with_mark : MarkFields → Disk → Disk
with_mark mark d = record { synced = d.synced; unsynced = d.unsynced; mark = Some mark }

-- ---- moments

-- the disk now, and at each moment before since they are told, the first one first
pub record Moments : Type 0 where
  pub past : List Disk
  pub now : Disk

-- how many moments were there before this one; no call of a store makes it fall
abbrev pub moment : Moments → ℕ
moment h = length h.past

-- the disk at each moment from one on
abbrev pub disks_since : ℕ → Moments → List Disk
disks_since t h = drop t h.past ++ h.now ∷ []

-- a crash at some moment from one on might have left this
abbrev pub MightHaveLeft : Moments → ℕ → Image → Type 0
MightHaveLeft h t image = Any (λ d. MayLeave d image) (disks_since t h)

-- one moment more, with another disk
abbrev pub then_disk : Disk → Moments → Moments
then_disk d h = record { past = h.past ++ h.now ∷ []; now = d }

-- one moment more, after a step of the disk
abbrev pub after_step : (Disk → Disk) → Option Moments → Option Moments
after_step step None = None
after_step step (Some h) = Some (then_disk (step h.now) h)

-- the step was made or it wasn't
abbrev pub MayHaveMade : (Disk → Disk) → Option Moments → Option Moments → Type 0
MayHaveMade step old new = (new ≡ old) ⊎ (new ≡ after_step step old)

-- ---- what reads give, where it is told

abbrev pub cells_told : Option Moments → Option Cells
cells_told None = None
cells_told (Some h) = Some (reads h.now)

-- the mark that was read is the one on the disk, where it is told
abbrev pub ReadsMark : Option Moments → Option MarkFields → Type 0
ReadsMark None mark = Unit {0}
ReadsMark (Some h) mark = mark ≡ h.now.mark

-- ---- a run of calls

-- between two histories each disk has P: the one that the run began with, each in between, and the
-- last one
pub record KeepsTo (P : Disk → Type 0) (old new : Moments) : Type 0 where
  pub more : List Disk
  pub past : new.past ≡ old.past ++ more
  pub each : All P more
  pub now : P new.now

-- at each moment of a run the disk has P, where it is told
abbrev pub AtEachMoment : (Disk → Type 0) → Option Moments → Option Moments → Type 0
AtEachMoment P None new = new ≡ None
AtEachMoment P (Some old) None = ⊥
AtEachMoment P (Some old) (Some new) = KeepsTo P old new

-- a crash of some disk that has P may leave this image
abbrev pub MayLeaveOne : (Disk → Type 0) → Image → Type 0
MayLeaveOne P image = (d : Disk) × P d × MayLeave d image

-- what holds of the disk now, where it is told
abbrev pub Now : (Disk → Type 0) → Option Moments → Type 0
Now P None = Unit {0}
Now P (Some h) = P h.now

-- ---- changes, one after the other

-- the changes are made one after the other, each whatever the cells hold
unfoldable pub after_changes : List Change → Option Moments → Option Moments
after_changes changes told = fold (λ h change. after_step (changed_by change) h) told changes

-- the same by a first part of the changes
abbrev pub AfterPart : List Change → Option Moments → Option Moments → Type 0
AfterPart changes old new = (n : ℕ) × (new ≡ after_changes (take n changes) old)

-- the disk after a first part of the changes
abbrev pub IsAfterPart : List Change → Disk → Disk → Type 0
IsAfterPart changes d e = (n : ℕ) × (e ≡ changed_by_all (take n changes) d)

-- what a crash left in the middle of changes: in each cell what it may leave before them, or what
-- reads give after some first ones
pub record IsLeftInPart (changes : List Change) (d : Disk) (image : Image) : Type 0 where
  pub cells : (c : Cell) → MayHoldInPart changes d c (image.cells c)
  pub mark : image.mark ≡ d.mark

-- each image that a crash at some moment of a run might have left is so
abbrev pub CrashesLeave : (Image → Type 0) → Moments → Option Moments → Type 0
CrashesLeave P h None = Unit {0}
CrashesLeave P h (Some new) = (image : Image) → MightHaveLeft new (moment h) image → P image
