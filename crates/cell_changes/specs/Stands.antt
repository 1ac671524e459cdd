-- Cells of single objects that stand for them in a tree.
use Rattle.std.specs.Prelude.{◌≡◌, ℕ, ◌≤◌, Bool, false, ◌==◌}
use Rattle.file_tree.specs.Tree.{Tree, place, slots_of, names_at, is_directory_at}
use Rattle.harp_cells.specs.declared.cell.Cell.{Cell}
use Rattle.harp_cells.specs.declared.cell.Cell.TheVariants as cell
use Rattle.harp_cells.specs.declared.change.Change.{Change}
use Rattle.harp_cells.specs.declared.change.Change.TheVariants as change
use Rattle.harp_cells.specs.Effect.{Cells}
use Rattle.harp_cells.specs.CellsOfTree.{StandForSame, object_value, content_of, block_of, block_value}
use Rattle.inode_blocks.specs.Holds.{EndsAt}
use Rattle.inode_dirs.specs.Slots.{HoldsSlots}
use Rattle.cell_changes.specs.Table.{content_size}

-- the cells of one number stand for what a tree has there: the object, its blocks and its slots
pub record StandsAt (cells : Cells) (tree : Tree) (number : ℕ) : Type 0 where
  pub object : StandForSame tree (cell.Object number) (cells (cell.Object number))
      (object_value tree number (place tree number))
  pub block : (block : ℕ) → StandForSame tree (cell.Block number block)
      (cells (cell.Block number block))
      (block_value (block_of (content_of (place tree number)) block))
  pub ends : EndsAt cells number (content_size tree number)
  pub slot : HoldsSlots cells number (slots_of (place tree number))

-- the cells of every number do
abbrev pub AllStand : Cells → Tree → Type 0
AllStand cells tree = (number : ℕ) → StandsAt cells tree number

-- an update leaves what stands at a number, the entries that name it, and the kinds of what its own
-- entries name
pub record IsUnmoved (old new : Tree) (number : ℕ) : Type 0 where
  pub stays : place new number ≡ place old number
  pub named : (dir : ℕ) → names_at number (place new dir) ≡ names_at number (place old dir)
  pub names : (k : ℕ) → 1 ≤ names_at k (place old number)
      → is_directory_at (place new k) ≡ is_directory_at (place old k)

-- the cell of an object, of its blocks or of its slots
abbrev pub is_cell_of : ℕ → Cell → Bool
is_cell_of number cell.Meta = false
is_cell_of number (cell.Object object) = object == number
is_cell_of number (cell.Block object block) = object == number
is_cell_of number (cell.Slot object slot) = object == number
is_cell_of number (cell.Client client) = false
is_cell_of number (cell.Saved place) = false

abbrev pub changes_cell_of : ℕ → Change → Bool
changes_cell_of number (change.Put c v) = is_cell_of number c
changes_cell_of number (change.Erase c) = is_cell_of number c
changes_cell_of number (change.EraseFrom object first) = object == number
