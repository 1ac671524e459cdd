-- Cells in memory.
use Rattle.std.specs.Prelude.{◌≡◌, ℕ, List, take, Option, Some, None}
use Rattle.std.specs.Map.{lookup}
use Rattle.harp_cells.specs.declared.cell.Cell.{Cell}
use Rattle.harp_cells.specs.declared.value.Value.{Value}
use Rattle.harp_cells.specs.declared.change.Change.{Change}
use Rattle.harp_cells.specs.Effect.{Cells, key, is_key, after}

-- values by the keys of their cells
abbrev pub Entries : Type 0
Entries = List ((ℕ × ℕ × ℕ) × Value)

-- the values by cell, and the cell that was fetched last
pub record Keyed : Type 0 where
  pub entries : Entries
  pub fetched : Option Cell

unfoldable pub cell_in : Entries → Cells
cell_in entries c = lookup (is_key (key c)) entries

abbrev pub held : Keyed → Cells
held m c = cell_in m.entries c

abbrev pub fetched_from : Entries → Option Cell → Option Value
fetched_from entries None = None
fetched_from entries (Some c) = cell_in entries c

abbrev pub fetched_in : Keyed → Option Value
fetched_in m = fetched_from m.entries m.fetched

-- every cell is absent
abbrev pub HoldsNothing : Keyed → Type 0
HoldsNothing m = (c : Cell) → held m c ≡ None

-- each cell holds what the changes make of it
abbrev pub BecomesBy : List Change → Keyed → Keyed → Type 0
BecomesBy changes old new = (c : Cell) → held new c ≡ after changes (held old) c

-- the same by a first part of the changes
abbrev pub BecomesByPart : List Change → Keyed → Keyed → Type 0
BecomesByPart changes old new = (n : ℕ) × BecomesBy (take n changes) old new
