-- The inside of a store in memory: its values, the changes of them, and its earlier moments.
use Rattle.std.specs.Prelude.{◌≡◌, ◌⊎◌, ℕ, ◌≤◌, Bool, ◌&&◌, List, [], ◌∷◌, map, length, take, drop, All, Option, Some, None, if◌then◌else◌}
use Rattle.harp_cells.specs.declared.cell.Cell.{Cell}
use Rattle.harp_cells.specs.declared.value.Value.{Value}
use Rattle.harp_cells.specs.Effect.{Cells, is_cell}
use Rattle.harp_store.specs.Mark.{MarkFields}
use Rattle.harp_store.specs.Disk.{Disk, Moments, set_by}
use Rattle.harp_store.specs.Table.{Entries, find, base_in, value_in}
use Rattle.harp_store.specs.declared.table.Held.{Held}
use Rattle.harp_store.specs.declared.layers.Unsynced.{Unsynced}
use Rattle.harp_store.specs.declared.layers.Instant.{Instant}
use Rattle.harp_store.specs.declared.layers.Layers.{Layers}

-- ---- moments

-- the disk at a moment, by the values below and the changes of them
abbrev pub disk_at : Cells → List Unsynced → Instant → Disk
disk_at base changes t = record {
  synced = λ c. set_by c (take t.synced changes) (base c);
  unsynced = drop t.synced (take t.made changes);
  mark = t.mark;
}

-- what is stored at each moment, by the values below, the changes of them, how many of these are
-- synced, the mark and earlier moments
abbrev pub stored_by : Cells → List Unsynced → ℕ → Option MarkFields → List Instant → Moments
stored_by base changes synced mark past = record {
  past = map (disk_at base changes) past;
  now = record {
    synced = λ c. set_by c (take synced changes) (base c);
    unsynced = drop synced changes;
    mark = mark;
  };
}

-- what a value lacks an entry for
abbrev pub lacking : Option Held → Option Value → Option Value
lacking None value = value
lacking (Some h) value = None

-- a cell without an entry can only have been erased
abbrev pub HasEntry : Option Held → Option Value → Type 0
HasEntry entry value = lacking entry value ≡ None

abbrev pub IsMoment : ℕ → Instant → Type 0
IsMoment made t = (t.synced ≤ t.made) × (t.made ≤ made)

-- the table reads as the changes make it, and each cell that holds one of their values has an entry
pub record IsReadBy (entries : Entries) (changes : List Unsynced) : Type 0 where
  pub reads : (c : Cell) → value_in entries c ≡ set_by c changes (base_in entries c)
  pub present : All (λ u. HasEntry (find entries u.cell) u.value) changes

-- no more changes are synced than were made, now and at each earlier moment
pub record IsPast (made synced : ℕ) (past : List Instant) : Type 0 where
  pub within : synced ≤ made
  pub moments : All (IsMoment made) past

pub record AreLayers (l : Layers) : Type 0 where
  pub table : IsReadBy l.table l.changes.items
  pub times : IsPast (length l.changes.items) l.synced l.past.items

abbrev pub stored_in : Layers → Moments
stored_in l = stored_by (base_in l.table) l.changes.items l.synced l.mark l.past.items

-- ---- one change of the table

-- an entry table after a put or an erasure
pub record Takes (u : Unsynced) (old new : Entries) : Type 0 where
  pub base : (c : Cell) → base_in new c ≡ base_in old c
  pub value : (c : Cell) → value_in new c ≡ (if is_cell u.cell c then u.value else value_in old c)
  pub entry : (c : Cell) (v : Option Value) → HasEntry (find old c) v → HasEntry (find new c) v
  pub own : HasEntry (find new u.cell) u.value

-- this moment
abbrev pub instant_now : Layers → Instant
instant_now l = record { made = length l.changes.items; synced = l.synced; mark = l.mark }

-- ---- changes that come below

-- a cell reads as the value below, or as the changes make it
pub record IsOpenTo (entries : Entries) (changes : List Unsynced) : Type 0 where
  pub each : (c : Cell) → (value_in entries c ≡ base_in entries c) ⊎ (value_in entries c
      ≡ set_by c changes (base_in entries c))
  pub present : All (λ u. HasEntry (find entries u.cell) u.value) changes

-- a cell after the first change, where it is kept
abbrev pub kept_first : Bool → Cell → List Unsynced → Option Value → Option Value
kept_first kept c [] held = held
kept_first kept c (u ∷ us) held = if kept && is_cell u.cell c then u.value else held
