-- How many changes an update may make, of which cells, and of which values.
use Rattle.std.specs.Prelude.{◌≡◌, ℕ, ◌≤◌, ◌&&◌, Bool, true, false, List, length, count_by}
use Rattle.std.specs.List.{list_all}
use Rattle.harp_cells.specs.declared.cell.Cell.{Cell}
use Rattle.harp_cells.specs.declared.cell.Cell.TheVariants as cell
use Rattle.harp_cells.specs.declared.value.Value.{Value}
use Rattle.harp_cells.specs.declared.value.Value.TheVariants as value
use Rattle.harp_cells.specs.declared.change.Change.{Change}
use Rattle.harp_cells.specs.declared.change.Change.TheVariants as change

-- a cell of the tree, and neither a client's nor one of a saved log
abbrev pub is_of_tree : Cell → Bool
is_of_tree cell.Meta = true
is_of_tree (cell.Object object) = true
is_of_tree (cell.Block object block) = true
is_of_tree (cell.Slot object slot) = true
is_of_tree (cell.Client client) = false
is_of_tree (cell.Saved place) = false

-- a value of the kind that a cell of the tree holds
abbrev pub is_kind_of : Cell → Value → Bool
is_kind_of cell.Meta (value.Meta next used stamp) = true
is_kind_of (cell.Object object) (value.Object inode) = true
is_kind_of (cell.Block object block) (value.Block bytes) = true
is_kind_of (cell.Slot object slot) (value.Slot number name) = true
is_kind_of c v = false

-- a cell of the tree goes, or gets a value of its kind
abbrev pub changes_tree : Change → Bool
changes_tree (change.Put c v) = is_of_tree c && is_kind_of c v
changes_tree (change.Erase c) = is_of_tree c
changes_tree (change.EraseFrom object first) = true

abbrev pub is_block : Cell → Bool
is_block (cell.Block object block) = true
is_block cell.Meta = false
is_block (cell.Object object) = false
is_block (cell.Slot object slot) = false
is_block (cell.Client client) = false
is_block (cell.Saved place) = false

abbrev pub puts_block : Change → Bool
puts_block (change.Put c v) = is_block c
puts_block (change.Erase c) = false
puts_block (change.EraseFrom object first) = false

-- at most so many changes of cells of the tree, of which at most three put a block
pub record AreShort (most : ℕ) (changes : List Change) : Type 0 where
  pub few : length changes ≤ most
  pub blocks : count_by puts_block changes ≤ 3
  pub tree : list_all changes_tree changes ≡ true
