-- Cells that are each of some moment between two points of a history.
use Rattle.std.specs.Prelude.{◌≡◌, ℕ, ◌≤◌, Bool, true, false, List, take, Option}
use Rattle.harp_cells.specs.declared.cell.Cell.{Cell}
use Rattle.harp_cells.specs.declared.cell.Cell.TheVariants as cell
use Rattle.harp_cells.specs.declared.value.Value.{Value}
use Rattle.harp_cells.specs.declared.change.Change.{Change}
use Rattle.harp_cells.specs.Effect.{Cells, after}
use Rattle.fuzzy_cells.specs.History.{History, cells_at}

-- a cell of a saved log, which no record changes
abbrev pub is_saved : Cell → Bool
is_saved cell.Meta = false
is_saved (cell.Object object) = false
is_saved (cell.Block object block) = false
is_saved (cell.Slot object slot) = false
is_saved (cell.Client client) = false
is_saved (cell.Saved place) = true

-- a cell's value is the very one that it has after some number of records from a to b
pub record IsOfMoment (history : History) (a b : ℕ) (c : Cell) (v : Option Value) : Type 0 where
  pub count : ℕ
  pub from : a ≤ count
  pub to : count ≤ b
  pub is : v ≡ cells_at history count c

-- FUZZY: each cell other than one of a saved log has the value of some moment from a to b, chosen
-- cell by cell
abbrev pub IsFuzzy : History → ℕ → ℕ → Cells → Type 0
IsFuzzy history a b cells = (c : Cell) → is_saved c ≡ false → IsOfMoment history a b c (cells c)

-- these cells are others than those of a saved log the same
abbrev pub AreAlike : Cells → Cells → Type 0
AreAlike cells others = (c : Cell) → is_saved c ≡ false → cells c ≡ others c

-- What a crash may leave of cells and of changes that weren't synced: each cell holds what it held
-- at some moment of them, chosen cell by cell. So of the changes of one cell each was kept or not,
-- and the last one that was kept stands
abbrev pub MayBeLeft : Cells → List Change → Cells → Type 0
MayBeLeft synced changes left = (c : Cell) → (n : ℕ) × (left c ≡ after (take n changes) synced c)
