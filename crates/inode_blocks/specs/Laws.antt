-- What holds of the bytes in the cells of a tree.
use Rattle.std.specs.Prelude.{◌≡◌, ℕ, ◌≤◌, true, false, List, [], ◌∷◌, length, replicate}
use Rattle.harp_types.specs.Limits.{block_size}
use Rattle.file_tree.specs.Tree.{Tree, place}
use Rattle.harp_cells.specs.declared.cell.Cell.{Cell}
use Rattle.harp_cells.specs.declared.cell.Cell.TheVariants as cell
use Rattle.harp_cells.specs.declared.change.Change.TheVariants as change
use Rattle.harp_cells.specs.Effect.{Cells, after}
use Rattle.harp_cells.specs.CellsOfTree.{StandForTree, StandForSame, content_of, block_of, block_value, is_regular_at}
use Rattle.inode_blocks.specs.Holds.{HoldsBytes, EndsAt}
use Rattle.inode_blocks.specs.Changes.{is_block_of, text_put}

-- cells that stand for a tree hold the bytes of each regular file, and the text of each symbolic
-- link
abbrev pub TreesHold : Type 0
TreesHold = (cells : Cells) (tree : Tree) (stamp : ℕ) → StandForTree cells tree stamp → (object : ℕ)
    → HoldsBytes cells object (content_of (place tree object))

-- cells that hold the bytes of a regular file stand for them in a tree
abbrev pub FilesStand : Type 0
FilesStand = (cells : Cells) (tree : Tree) (object : ℕ) → is_regular_at (place tree object) ≡ true
    → HoldsBytes cells object (content_of (place tree object))
    → (block : ℕ) → StandForSame tree (cell.Block object block) (cells (cell.Block object block))
    (block_value (block_of (content_of (place tree object)) block))

-- an object without blocks holds zeros, as many as there may be
abbrev pub HolesAreZeros : Type 0
HolesAreZeros = (cells : Cells) (object count : ℕ) → EndsAt cells object 0
    → HoldsBytes cells object (replicate count 0)

-- the blocks of a directory, a link and what isn't live are exactly those of the tree, and end with
-- them
abbrev pub OthersAreExact : Type 0
OthersAreExact = (cells : Cells) (tree : Tree) (stamp : ℕ) → StandForTree cells tree stamp
    → (object : ℕ)
    → is_regular_at (place tree object) ≡ false
    → ((block : ℕ) → cells (cell.Block object block)
    ≡ block_value (block_of (content_of (place tree object)) block))
    × EndsAt cells object (length (content_of (place tree object)))

-- after an erasure from the first block on none is left, and every other cell is as before
abbrev pub ErasuresLead : Type 0
ErasuresLead = (cells : Cells) (object : ℕ)
    → EndsAt (after (change.EraseFrom object 0 ∷ []) cells) object 0
    × ((c : Cell) → is_block_of object c ≡ false
    → after (change.EraseFrom object 0 ∷ []) cells c ≡ cells c)

-- a new link's text is put where no block is, and every other cell is as before
abbrev pub TextsLead : Type 0
TextsLead = (cells : Cells) (object : ℕ) (text : List ℕ) → EndsAt cells object 0
    → length text ≤ block_size
    → ((block : ℕ) → after (text_put object text) cells (cell.Block object block)
    ≡ block_value (block_of text block))
    × ((c : Cell) → is_block_of object c ≡ false → after (text_put object text) cells c ≡ cells c)
