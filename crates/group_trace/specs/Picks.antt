-- What a crash leaves of a disk, by its pick.
use Rattle.std.specs.Prelude.{ℕ, zero, suc, ◌-◌, ◌%◌, Bool, true, false, List, [], ◌∷◌, ◌++◌, length, None, Some, is_some, slice_get, if◌then◌else◌}
use Rattle.harp_types.specs.Picks.{is_kept}
use Rattle.harp_types.specs.declared.pick.Pick.{Pick}
use Rattle.harp_cells.specs.declared.cell.Cell.TheVariants as cell
use Rattle.harp_cells.specs.declared.change.Change.{Change}
use Rattle.harp_cells.specs.declared.change.Change.TheVariants as change
use Rattle.harp_cells.specs.Effect.{Cells, after}
use Rattle.fuzzy_cells.specs.Disk.{Disk, synced_to}

-- the number of each block of a file is below this
unfoldable pub most_blocks : ℕ
most_blocks = 524288

-- an erasure of each block of an object that is there, of so many from one on
unfoldable pub erases_there : ℕ → Cells → ℕ → ℕ → List Change
erases_there zero cells object block = []
erases_there (suc more) cells object block =
    if is_some (cells (cell.Block object block))
    then change.Erase (cell.Block object block) ∷ erases_there more cells object (suc block)
    else erases_there more cells object (suc block)

-- a change as a pick counts it: an erasure of blocks from one on is one of each block that is
-- there
abbrev pub counted : Cells → Change → List Change
counted cells (change.EraseFrom object first) =
    erases_there (most_blocks - first) cells object first
counted cells x = x ∷ []

-- changes as a pick counts them, each with the cells that those before it leave
unfoldable pub all_counted : Cells → List Change → List Change
all_counted cells [] = []
all_counted cells (x ∷ xs) = counted cells x ++ all_counted (after (x ∷ []) cells) xs

-- the changes that are kept of a list whose first one has the place k
unfoldable pub kept : Pick → ℕ → List Change → List Change
kept pick k [] = []
kept pick k (x ∷ xs) = if is_kept pick k then x ∷ kept pick (suc k) xs else kept pick (suc k) xs

-- THE DISK AFTER A CRASH BY A PICK: of the changes since the last sync those that the pick keeps
abbrev pub crashed_by : Pick → Disk → Disk
crashed_by pick disk =
    synced_to (after (kept pick 0 (all_counted disk.synced disk.changes)) disk.synced)
