-- The cells after some records of a log.
use Rattle.std.specs.Prelude.{◌≡◌, ℕ, ◌-◌, List, [], ◌∷◌, take, fold, Option, Some, None}
use Rattle.harp_cells.specs.declared.cell.Cell.{Cell}
use Rattle.harp_cells.specs.declared.value.Value.{Value}
use Rattle.harp_cells.specs.declared.change.Change.{Change}
use Rattle.harp_cells.specs.declared.change.Change.TheVariants as change
use Rattle.harp_cells.specs.Effect.{Cells, after, changed}
use Rattle.fuzzy_cells.specs.History.{History, in_a_row}

-- ---- one cell

-- a change leaves a cell, whatever it holds
abbrev pub LeavesByOne : Cell → Change → Type 0
LeavesByOne c x = (held : Option Value) → changed c held x ≡ held

-- or sets it to a value, or to none
abbrev pub SetsByOne : Cell → Change → Option Value → Type 0
SetsByOne c x v = (held : Option Value) → changed c held x ≡ v

-- changes leave a cell
abbrev pub Leaves : Cell → List Change → Type 0
Leaves c changes = (held : Option Value) → fold (changed c) held changes ≡ held

-- or set it
abbrev pub Sets : Cell → List Change → Option Value → Type 0
Sets c changes v = (held : Option Value) → fold (changed c) held changes ≡ v

-- what a change makes of a cell that it sets
abbrev pub value_of : Change → Option Value
value_of (change.Put cell value) = Some value
value_of (change.Erase cell) = None
value_of (change.EraseFrom object first) = None

-- what changes make of a cell is told by the part of them from the last one on that sets it, which is empty where none does
abbrev pub IsToldBy : Cell → List Change → List Change → Type 0
IsToldBy c changes [] = Leaves c changes
IsToldBy c changes (x ∷ rest) = Sets c changes (value_of x)

-- what was found: what the first of these changes makes of its cell, or else what was found under
abbrev pub found_over : List Change → Option Value → Option Value
found_over [] under = under
found_over (x ∷ rest) under = value_of x

-- ---- all cells

-- the changes of the records of a log up to an index
abbrev pub changes_upto : ℕ → History → ℕ → List Change
changes_upto base records upto = in_a_row (take (upto - base) records)

-- THE CELLS AFTER `upto` RECORDS, where the records lie over other cells
abbrev pub cells_over : ℕ → History → ℕ → Cells → Cells
cells_over base records upto under = after (changes_upto base records upto) under

-- the same, where the cells under are told
abbrev pub told_over : ℕ → History → ℕ → Option Cells → Option Cells
told_over base records upto None = None
told_over base records upto (Some under) = Some (cells_over base records upto under)
