-- What a cache keeps.
use Rattle.std.specs.Prelude.{◌≡◌, ℕ, ◌-◌, ◌≤◌, Bool, not, is_some, List, [], ◌∷◌, take, Option, Some, None, Contains, if◌then◌else◌}
use Rattle.std.specs.List.{filter}
use Rattle.std.specs.Map.{lookup, remove_entry}
use Rattle.harp_cells.specs.declared.cell.Cell.{Cell}
use Rattle.harp_cells.specs.declared.cell.Cell.TheVariants as cell
use Rattle.harp_cells.specs.declared.value.Value.{Value}
use Rattle.harp_cells.specs.declared.change.Change.{Change}
use Rattle.harp_cells.specs.Effect.{Cells, is_cell, sets}

-- cells and what they hold, the most recently used first; an absent cell holds nothing
abbrev pub Entries : Type 0
Entries = List (Cell × Option Value)

-- the entries, and how many there may be
pub record Kept : Type 0 where
  pub entries : Entries
  pub places : ℕ

-- EACH ENTRY IS WHAT THE CELL HOLDS, where the cells are told
abbrev pub AreOf : Option Cells → Entries → Type 0
AreOf told entries = (cells : Cells) → told ≡ Some cells → (e : Cell × Option Value)
    → Contains entries e → e.1 ≡ cells e.0

-- the cell is no block with a greater number
abbrev pub IsUpTo : ℕ → Cell → Type 0
IsUpTo last c = (object block : ℕ) → c ≡ cell.Block object block → block ≤ last

-- no entry is of a block with a greater number
abbrev pub AreUpTo : ℕ → Entries → Type 0
AreUpTo last entries = (e : Cell × Option Value) → Contains entries e → IsUpTo last e.0

-- what the first entry's cell holds
abbrev pub newest_of : Entries → Option Value
newest_of [] = None
newest_of (e ∷ rest) = e.1

-- what was found: the first entry's, where one was fetched
abbrev pub found_in : Bool → Entries → Option Value
found_in fetched entries = if fetched then newest_of entries else None

-- the cell has an entry
abbrev pub has_entry : Cell → Entries → Bool
has_entry c entries = is_some (lookup (is_cell c) entries)

-- THE CELL WAS USED: its entry is the first, and the others keep their order. Where it had none,
-- the last one is gone if there was no place left
abbrev pub IsUsed : Cell → Kept → Kept → Type 0
IsUsed c old new = new ≡ record {
  entries = (c, newest_of new.entries) ∷ (if has_entry c old.entries
      then remove_entry (is_cell c) old.entries
      else take (old.places - 1) old.entries);
  places = old.places;
}

-- the entries of cells that a change doesn't set
unfoldable pub left_by : Change → Entries → Entries
left_by change entries = filter (λ e. not (sets change e.0)) entries
