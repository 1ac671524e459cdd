-- Sound pictures: those of cells that stand for a tree.
use Rattle.std.specs.Prelude.{◌≡◌, ℕ, ◌==◌, ◌&&◌, nat_lt, Bool, true, false, length, Option, Some}
use Rattle.std.specs.Prelude.{None}
use Rattle.file_tree.specs.declared.object.Body.{Body}
use Rattle.file_tree.specs.declared.object.Body.TheVariants as body
use Rattle.file_tree.specs.declared.object.Object.{Object}
use Rattle.file_tree.specs.Sound.{IsSound}
use Rattle.file_tree.specs.Tree.{Tree, blocks_of, place, slots_of}
use Rattle.harp_cells.specs.declared.cell.Cell.{Cell}
use Rattle.harp_cells.specs.declared.cell.Cell.TheVariants as cell
use Rattle.harp_cells.specs.CellsOfTree.{StandForSame, cell_of_tree}
use Rattle.harp_cells.specs.Effect.{Cells}
use Rattle.audit.specs.declared.picture.Picture.{Picture}
use Rattle.audit.specs.Pictures.{picture_of}

-- a block below a file's end, and the one that has the text of a link
abbrev pub is_block_of_body : ℕ → Body → Bool
is_block_of_body block (body.Regular bytes) = nat_lt block (blocks_of (length bytes))
is_block_of_body block (body.Link text) = block == 0
is_block_of_body block (body.Directory slots) = false

abbrev pub is_block_of : ℕ → Option Object → Bool
is_block_of block None = false
is_block_of block (Some o) = is_block_of_body block o.body

-- a cell that the tree or a live object of it names: that of the whole, of each number that was
-- given, the blocks of files and links, and the slots of directories
abbrev pub is_named : Tree → Cell → Bool
is_named tree cell.Meta = true
is_named tree (cell.Object number) = nat_lt 0 number && nat_lt number (length tree)
is_named tree (cell.Block number block) = is_block_of block (place tree number)
is_named tree (cell.Slot number slot) = nat_lt slot (length (slots_of (place tree number)))
is_named tree (cell.Client client) = false
is_named tree (cell.Saved at) = false

-- THESE CELLS STAND FOR A TREE, whose last update has this stamp; cells that nothing of it names
-- are left aside, those of clients too
abbrev pub StandForNamed : Cells → Tree → ℕ → Type 0
StandForNamed cells tree stamp = (c : Cell) → is_named tree c ≡ true
    → StandForSame tree c (cells c) (cell_of_tree tree stamp (λ client. None) c)

-- A PICTURE IS SOUND that is the one of cells that stand for a tree as calls make them
pub record IsSoundPicture (p : Picture) : Type 0 where
  pub cells : Cells
  pub tree : Tree
  pub stamp : ℕ
  pub stand : StandForNamed cells tree stamp
  pub sound : IsSound tree
  pub picture : p ≡ picture_of cells
