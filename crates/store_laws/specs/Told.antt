-- The disk that a store tells, beside a disk of a run of the group.
use Rattle.std.specs.Prelude.{◌≡◌, false, List, [], ◌∷◌, Option, Some, None}
use Rattle.fuzzy_cells.specs.Disk.{Disk}
use Rattle.fuzzy_cells.specs.Fuzzy.{AreAlike, is_saved}
use Rattle.group_trace.specs.Picks.{all_counted}
use Rattle.harp_cells.specs.declared.change.Change.{Change}
use Rattle.harp_cells.specs.declared.change.Change.TheVariants as change
use Rattle.harp_store.specs.Disk.{Disk as ToldDisk, Moments, Now}
use Rattle.harp_store.specs.declared.layers.Unsynced.{Unsynced}

-- as many of one kind as of another, each with the one at its place
abbrev pub OneForOne : {A B : Type 0} → (A → B → Type 0) → List A → List B → Type 0
OneForOne Goes [] [] = Unit {0}
OneForOne Goes (x ∷ xs) (y ∷ ys) = Goes x y × OneForOne Goes xs ys
OneForOne Goes xs ys = ⊥

-- an unsynced change of a store is this one of a run, an erasure the one without a value; of a
-- cell of a saved log the value isn't asked
abbrev pub IsUnsyncedOf : Unsynced → Change → Type 0
IsUnsyncedOf u (change.Put cell value) =
    (u.cell ≡ cell) × (is_saved cell ≡ false → u.value ≡ Some value)
IsUnsyncedOf u (change.Erase cell) = (u.cell ≡ cell) × (is_saved cell ≡ false → u.value ≡ None)
IsUnsyncedOf u (change.EraseFrom object first) = ⊥

-- THE DISK OF A STORE IS THAT OF A RUN but for what the cells of saved logs hold, of which a run
-- doesn't know in which view a record was stamped: the synced cells are alike, and the changes
-- since, as a pick counts them, are one for one
pub record IsDiskOf (d : ToldDisk) (r : Disk) : Type 0 where
  pub synced : AreAlike d.synced r.synced
  pub unsynced : OneForOne IsUnsyncedOf d.unsynced (all_counted r.synced r.changes)

-- the disk that is told now is, if one is told
abbrev pub IsToldOf : Option Moments → Disk → Type 0
IsToldOf told r = Now (λ d. IsDiskOf d r) told
