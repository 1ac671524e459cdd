-- The changes that stand in the journal, and whose cells' files aren't brought up to them yet.
use Rattle.std.specs.Prelude.{◌≡◌, ℕ, ◌<◌, ◌≤◌, List, [], ◌∷◌, ◌++◌, length, map, take, drop, fold, Option, Some, None, if◌then◌else◌}
use Rattle.std.specs.Map.{lookup}
use Rattle.harp_base.specs.Fields.{many_bytes}
use Rattle.harp_cells.specs.declared.cell.Cell.{Cell}
use Rattle.harp_cells.specs.declared.value.Value.{Value}
use Rattle.harp_cells.specs.declared.change.Change.{Change}
use Rattle.harp_cells.specs.declared.change.Change.TheVariants as change
use Rattle.harp_cells.specs.Effect.{is_cell, key, is_key}
use Rattle.store_journal.specs.JournalFile.{IsTorn, entry_bytes}
use Rattle.store_journal.specs.declared.waiting.Waiting.{Waiting}

-- changes by the keys of their cells
abbrev pub Entries : Type 0
Entries = List ((ℕ × ℕ × ℕ) × Change)

unfoldable pub change_in : Entries → Cell → Option Change
change_in entries c = lookup (is_key (key c)) entries

-- what a change of one cell makes of it
abbrev pub made_by : Option Change → Option (Option Value)
made_by None = None
made_by (Some (change.Put cell value)) = Some (Some value)
made_by (Some (change.Erase cell)) = Some None
made_by (Some (change.EraseFrom object first)) = None

-- the cell of a change of one cell
abbrev pub single : Change → Option Cell
single (change.Put cell value) = Some cell
single (change.Erase cell) = Some cell
single (change.EraseFrom object first) = None

abbrev pub entries_of : Waiting → Entries
entries_of w = w.changes.entries

-- WHAT WAITS for a cell: a value, an erasure, or nothing
abbrev pub waits : Waiting → Cell → Option (Option Value)
waits w c = made_by (change_in (entries_of w) c)

abbrev pub NothingWaits : Waiting → Type 0
NothingWaits w = (c : Cell) → waits w c ≡ None

-- how many cells wait
abbrev pub count_of : Waiting → ℕ
count_of w = length (entries_of w)

-- the cells in the order in which they began to wait
abbrev pub order_of : Waiting → List Cell
order_of w = w.order.items

abbrev pub first : List Cell → Option Cell
first [] = None
first (c ∷ cells) = Some c

-- all that waits
abbrev pub changes_in : Waiting → List Change
changes_in w = map (λ e. e.1) (entries_of w)

-- what waits for a cell behind a change of one cell
abbrev pub waiting_after : Cell → Option (Option Value) → Change → Option (Option Value)
waiting_after c made (change.Put cell value) = if is_cell cell c then Some (Some value) else made
waiting_after c made (change.Erase cell) = if is_cell cell c then Some None else made
waiting_after c made (change.EraseFrom object first) = made

-- the changes wait too, the last one of each cell
abbrev pub Adds : List Change → Waiting → Waiting → Type 0
Adds changes old new = (c : Cell) → waits new c ≡ fold (waiting_after c) (waits old c) changes

-- some first ones of them do
abbrev pub AddsPart : List Change → Waiting → Waiting → Type 0
AddsPart changes old new = (n : ℕ) × Adds (take n changes) old new

-- the entry that begins at a place waits, which ends at the next one; or there is no whole one
abbrev pub TakesEntry : List ℕ → ℕ → Option ℕ → Waiting → Waiting → Type 0
TakesEntry bytes at None old new = IsTorn (drop at bytes) × (new ≡ old)
TakesEntry bytes at (Some next) old new = (changes : List Change)
    × (drop at bytes ≡ entry_bytes changes ++ drop next bytes) × (at < next)
    × (next ≤ length bytes) × Adds changes old new

-- THE WHOLE ENTRIES of a journal's bytes wait, which end where no other one begins
pub record TakesUp (bytes : List ℕ) (end : ℕ) (old new : Waiting) : Type 0 where
  pub entries : List (List Change)
  pub tail : List ℕ
  pub spelled : bytes ≡ many_bytes entry_bytes entries ++ tail
  pub torn : IsTorn tail
  pub end_is : end ≡ length (many_bytes entry_bytes entries)
  pub waiting : (c : Cell) → waits new c ≡ fold (λ made changes. fold (waiting_after c) made changes)
      (waits old c) entries
