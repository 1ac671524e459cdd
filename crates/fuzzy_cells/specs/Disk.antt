-- A disk beside its mark and how far it may be.
use Rattle.std.specs.Prelude.{ℕ, ◌≤◌, Bool, false, List, [], ◌++◌, take}
use Rattle.harp_cells.specs.declared.change.Change.{Change}
use Rattle.harp_cells.specs.declared.change.Change.TheVariants as change
use Rattle.harp_cells.specs.Effect.{Cells, after}
use Rattle.fuzzy_cells.specs.History.{History}
use Rattle.fuzzy_cells.specs.Fuzzy.{IsFuzzy, is_saved}

-- the cells of the last sync, and the changes put since
pub record Disk : Type 0 where
  pub synced : Cells
  pub changes : List Change

-- what it reads as
abbrev pub reads : Disk → Cells
reads disk = after disk.changes disk.synced

-- each change up to now is synced
abbrev pub synced_to : Cells → Disk
synced_to cells = record { synced = cells; changes = [] }

-- with more changes
abbrev pub with_changes : Disk → List Change → Disk
with_changes disk more = record { synced = disk.synced; changes = disk.changes ++ more }

-- THE DISK IS BETWEEN its mark's LB and m: so are its cells at each moment since the last sync;
-- and what it reads as is between AP and m
pub record IsBetween (history : History) (lb ap m : ℕ) (disk : Disk) : Type 0 where
  pub lb_ap : lb ≤ ap
  pub ap_m : ap ≤ m
  pub moments : (n : ℕ) → IsFuzzy history lb m (after (take n disk.changes) disk.synced)
  pub now : IsFuzzy history ap m (reads disk)

-- a change of a cell of a saved log
abbrev pub changes_saved : Change → Bool
changes_saved (change.Put c v) = is_saved c
changes_saved (change.Erase c) = is_saved c
changes_saved (change.EraseFrom object first) = false
