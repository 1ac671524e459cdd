-- A store in memory, as callers see it, and what a crash by a pick leaves of a disk.
use Rattle.std.specs.Prelude.{ℕ, zero, suc, ◌+◌, ◌%◌, Bool, true, false, ◌&&◌, List, [], ◌∷◌, length, slice_index_or, Option, Some, None, if◌then◌else◌}
use Rattle.harp_cells.specs.declared.cell.Cell.{Cell}
use Rattle.harp_cells.specs.declared.value.Value.{Value}
use Rattle.harp_cells.specs.Effect.{is_cell}
use Rattle.harp_store.specs.Disk.{Disk, Moments, synced_whole}
use Rattle.harp_store.specs.Layers.{stored_in}
use Rattle.harp_store.specs.declared.layers.Unsynced.{Unsynced}
use Rattle.harp_store.specs.declared.mem_store.MemStore.{MemStore}
use Rattle.harp_types.specs.Picks.{is_kept}
use Rattle.harp_types.specs.declared.pick.Pick.{Pick}

-- the disk at each moment
abbrev pub stored_of : MemStore → Moments
stored_of m = stored_in m.layers

abbrev pub told_of : MemStore → Option Moments
told_of m = Some (stored_of m)

-- a disk without a cell and a mark, at its first moment
abbrev pub nothing_stored : Moments
nothing_stored = record {
  past = [];
  now = record { synced = λ c. None; unsynced = []; mark = None };
}

-- no earlier moment is told any more
abbrev pub without_past : Moments → Moments
without_past h = record { past = []; now = h.now }

-- ---- a crash

-- the changes that are kept of some whose first one has this place
unfoldable pub kept : (ℕ → Bool) → ℕ → List Unsynced → List Unsynced
kept keeps place [] = []
kept keeps place (u ∷ us) = if keeps place then u ∷ kept keeps (place + 1) us else kept keeps
    (place + 1) us

-- THE DISK AFTER A CRASH BY A PICK: of the unsynced changes those that it keeps, and all is synced
abbrev pub crashed_by : Pick → Disk → Disk
crashed_by pick d = synced_whole (record {
  synced = d.synced;
  unsynced = kept (is_kept pick) 0 d.unsynced;
  mark = d.mark;
})

-- ---- inside

-- the last change of a cell that is kept, by its place; without one what is held
unfoldable pub left_by : (ℕ → Bool) → ℕ → Cell → List Unsynced → Option Value → Option Value
left_by keeps place c [] held = held
left_by keeps place c (u ∷ us) held = left_by keeps (place + 1) c us (if keeps place
    && is_cell u.cell c then u.value else held)

-- the same after so many changes that are kept
unfoldable pub left_after : Pick → ℕ → ℕ → Cell → List Unsynced → Option Value → Option Value
left_after pick zero place c us held = left_by (is_kept pick) place c us held
left_after pick (suc n) place c [] held = held
left_after pick (suc n) place c (u ∷ us) held = left_after pick n place c us
    (if is_cell u.cell c then u.value else held)
