-- What holds of the changes of records.
use Rattle.std.specs.Prelude.{◌≡◌, ℕ, List, [], ◌∷◌, ◌++◌, length, take}
use Rattle.file_tree.specs.Book.{Entry}
use Rattle.harp_cells.specs.declared.cell.Cell.TheVariants as cell
use Rattle.harp_cells.specs.CellsOfTree.{StandForBook}
use Rattle.harp_cells.specs.Effect.{Cells}
use Rattle.fuzzy_cells.specs.History.{AllSetOnce, cells_at}
use Rattle.fuzzy_cells.specs.Fuzzy.{AreAlike}
use Rattle.record_changes.specs.Records.{AreUpdates, history_of, record_changes}

-- one record for each entry
abbrev pub HistoriesAreAsLong : Type 0
HistoriesAreAsLong = (entries : List Entry) → length (history_of entries) ≡ length entries

-- the first records are those of the first entries
abbrev pub FrontsAreHistories : Type 0
FrontsAreHistories = (entries : List Entry) (n : ℕ) → take n (history_of entries) ≡
    history_of (take n entries)

-- the record of one more entry is made of the cells after those before it
abbrev pub HistoriesGrow : Type 0
HistoriesGrow = (entries : List Entry) (e : Entry)
    → history_of (entries ++ e ∷ []) ≡ history_of entries
    ++ record_changes (cells_at (history_of entries) (length entries)) entries e ∷ []

-- the cells after the records stand for the book of the entries, at each point
abbrev pub HistoriesStand : Type 0
HistoriesStand = (entries : List Entry) → AreUpdates entries → (n : ℕ)
    → StandForBook (cells_at (history_of entries) n) (take n entries)

-- each record sets a cell at once
abbrev pub HistoriesSetOnce : Type 0
HistoriesSetOnce = (entries : List Entry) → AllSetOnce (history_of entries)

-- a record's changes read the blocks of the cells alone: so made of other cells with the same
-- blocks they are the same
abbrev pub SameBlocksSameChanges : Type 0
SameBlocksSameChanges = (cells others : Cells) (earlier : List Entry) (e : Entry)
    → ((object block : ℕ) → cells (cell.Block object block) ≡ others (cell.Block object block))
    → record_changes cells earlier e ≡ record_changes others earlier e

-- so a record that is planned over cells that are alike those after the entries is the next one of
-- the history, whoever plans it
abbrev pub PlannedIsNext : Type 0
PlannedIsNext = (entries : List Entry) (e : Entry) (cells : Cells)
    → AreAlike cells (cells_at (history_of entries) (length entries))
    → history_of (entries ++ e ∷ []) ≡ history_of entries ++ record_changes cells entries e ∷ []
