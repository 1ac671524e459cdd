-- The parents of directories that cells hold.
use Rattle.std.specs.Prelude.{◌≡◌, ℕ, zero, suc, ◌==◌, Option, Some, None, if◌then◌else◌}
use Rattle.file_tree.specs.Tree.{Tree, parent_of}
use Rattle.harp_cells.specs.declared.value.Value.{Value}
use Rattle.harp_cells.specs.declared.value.Value.TheVariants as value
use Rattle.harp_cells.specs.declared.cell.Cell.TheVariants as cell
use Rattle.harp_cells.specs.Effect.{Cells}

-- the parent of an object by its cell: an absent cell is that of the first root, or of no object
abbrev pub parent_by : ℕ → Option Value → ℕ
parent_by number None = if number == 1 then 1 else 0
parent_by number (Some (value.Object inode)) = inode.parent
parent_by number (Some (value.Meta next used stamp)) = 0
parent_by number (Some (value.Unformed inode)) = 0
parent_by number (Some (value.Block bytes)) = 0
parent_by number (Some (value.Slot object name)) = 0
parent_by number (Some (value.Client n index reply)) = 0
parent_by number (Some (value.Saved bytes)) = 0
parent_by number (Some (value.SavedCred bytes)) = 0

-- cells hold the parent of each directory of a tree
abbrev pub HoldsParents : Cells → Tree → Type 0
HoldsParents cells tree = (number : ℕ)
    → parent_by number (cells (cell.Object number)) ≡ parent_of tree number

-- cells that tell what they hold, and hold the parents of a tree
pub record TellsParents (told : Option Cells) (tree : Tree) : Type 0 where
  pub cells : Cells
  pub are : told ≡ Some cells
  pub holds : HoldsParents cells tree

-- the directory so many levels up
unfoldable pub ancestor : ℕ → Tree → ℕ → ℕ
ancestor zero tree dir = dir
ancestor (suc levels) tree dir = ancestor levels tree (parent_of tree dir)

-- a directory that is another one or below it
abbrev pub IsBelow : Tree → ℕ → ℕ → Type 0
IsBelow tree dir top = (levels : ℕ) × (ancestor levels tree dir ≡ top)
