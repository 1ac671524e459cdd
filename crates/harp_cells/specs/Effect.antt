-- Maps of cells, and what changes make of them.
use Rattle.std.specs.Prelude.{◌≡◌, ℕ, Bool, ◌&&◌, ◌==◌, nat_le, List, fold, Option, Some, None, if◌then◌else◌}
use Rattle.harp_cells.specs.declared.cell.Cell.{Cell}
use Rattle.harp_cells.specs.declared.cell.Cell.TheVariants as cell
use Rattle.harp_cells.specs.declared.value.Value.{Value}
use Rattle.harp_cells.specs.declared.change.Change.{Change}
use Rattle.harp_cells.specs.declared.change.Change.TheVariants as change

-- the kind of a cell, and the numbers that name it among its kind
abbrev pub key : Cell → ℕ × ℕ × ℕ
key cell.Meta = (1, 0, 0)
key (cell.Object object) = (2, object, 0)
key (cell.Block object block) = (3, object, block)
key (cell.Slot object slot) = (4, object, slot)
key (cell.Client client) = (5, client, 0)
key (cell.Saved place) = (6, place, 0)

abbrev pub is_key : ℕ × ℕ × ℕ → ℕ × ℕ × ℕ → Bool
is_key k l = (k.0 == l.0) && (k.1 == l.1) && (k.2 == l.2)

-- the same cell
unfoldable pub is_cell : Cell → Cell → Bool
is_cell c d = is_key (key c) (key d)

abbrev pub is_block_key : ℕ → ℕ → ℕ × ℕ × ℕ → Bool
is_block_key object first k = (k.0 == 3) && (k.1 == object) && nat_le first k.2

-- a block of the object, from the first on
unfoldable pub is_block_from : ℕ → ℕ → Cell → Bool
is_block_from object first c = is_block_key object first (key c)

-- what each cell holds, where it isn't absent
abbrev pub Cells : Type 0
Cells = Cell → Option Value

-- a change sets a cell, to a value or to none
unfoldable pub sets : Change → Cell → Bool
sets (change.Put cell value) c = is_cell cell c
sets (change.Erase cell) c = is_cell cell c
sets (change.EraseFrom object first) c = is_block_from object first c

-- what a cell holds after a change
abbrev pub changed : Cell → Option Value → Change → Option Value
changed c held (change.Put cell value) = if is_cell cell c then Some value else held
changed c held (change.Erase cell) = if is_cell cell c then None else held
changed c held (change.EraseFrom object first) = if is_block_from object first c then None else held

-- what each cell holds after changes, made one after the other
abbrev pub after : List Change → Cells → Cells
after changes cells c = fold (changed c) (cells c) changes

-- what was read is what the cell holds, where the cells tell it
abbrev pub Reads : Option Cells → Cell → Option Value → Type 0
Reads None c value = Unit {0}
Reads (Some cells) c value = value ≡ cells c
