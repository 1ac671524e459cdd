-- What the cells of a tree are at their ends.
use Rattle.std.specs.Prelude.{◌≡◌, ℕ, ◌*◌, ◌≤◌, List, [], ◌++◌, length, Option, None}
use Rattle.harp_types.specs.Limits.{block_size}
use Rattle.file_tree.specs.Book.{Entry}
use Rattle.file_tree.specs.Tree.{Tree, place, slots_of}
use Rattle.harp_cells.specs.declared.cell.Cell.{Cell}
use Rattle.harp_cells.specs.declared.cell.Cell.TheVariants as cell
use Rattle.harp_cells.specs.declared.change.Change.{Change}
use Rattle.harp_cells.specs.Effect.{Cells, after}
use Rattle.harp_cells.specs.CellsOfTree.{cells_after, content_of, cell_of_tree, StandForBook}

-- without any value, cells stand for the first tree and no updates
abbrev pub NoValuesAreFirst : Type 0
NoValuesAreFirst = StandForBook (λ c. None) []

-- the cells after the entries of a book stand for its tree and updates
abbrev pub CellsStand : Type 0
CellsStand = (entries : List Entry) → StandForBook (cells_after entries) entries

-- a block that begins at or past the end of its file is absent
abbrev pub BlocksEnd : Type 0
BlocksEnd = (tree : Tree) (stamp : ℕ) (last : ℕ → Option Entry) (object block : ℕ)
    → length (content_of (place tree object)) ≤ block_size * block
    → cell_of_tree tree stamp last (cell.Block object block) ≡ None

-- a slot at or past the number of slots is absent
abbrev pub SlotsEnd : Type 0
SlotsEnd = (tree : Tree) (stamp : ℕ) (last : ℕ → Option Entry) (object slot : ℕ)
    → length (slots_of (place tree object)) ≤ slot
    → cell_of_tree tree stamp last (cell.Slot object slot) ≡ None

-- the cells of an object that isn't live are absent
abbrev pub DeadAreAbsent : Type 0
DeadAreAbsent = (tree : Tree) (stamp : ℕ) (last : ℕ → Option Entry) (object place_of : ℕ)
    → place tree object ≡ None
    → (cell_of_tree tree stamp last (cell.Object object) ≡ None)
    × (cell_of_tree tree stamp last (cell.Block object place_of) ≡ None)
    × (cell_of_tree tree stamp last (cell.Slot object place_of) ≡ None)

-- changes made after others are those of both in a row
abbrev pub ChangesAppend : Type 0
ChangesAppend = (changes more : List Change) (cells : Cells) (c : Cell)
    → after (changes ++ more) cells c ≡ after more (after changes cells) c
