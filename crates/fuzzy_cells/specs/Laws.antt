-- What holds of fuzzy cells.
use Rattle.std.specs.Prelude.{◌≡◌, ℕ, ◌≤◌, List, take, max}
use Rattle.harp_cells.specs.declared.change.Change.{Change}
use Rattle.file_tree.specs.Book.{Entry}
use Rattle.harp_cells.specs.CellsOfTree.{StandForBook}
use Rattle.harp_cells.specs.Effect.{Cells, after}
use Rattle.fuzzy_cells.specs.History.{AllSetOnce, History, between, cells_at}
use Rattle.fuzzy_cells.specs.Fuzzy.{AreAlike, IsFuzzy, MayBeLeft}

-- what is fuzzy between a and b is, after the changes of the records from a to k, fuzzy between k
-- and the larger of b and k, whatever the cells hold before
abbrev pub AppliesOn : Type 0
AppliesOn = (history : History) (a b k : ℕ) (cells : Cells) → IsFuzzy history a b cells → a ≤ k
    → IsFuzzy history k (max b k) (after (between history a k) cells)

-- THE LOG OVER FUZZY CELLS gives each cell exactly: changes from a base at most a, up to at least
-- b
abbrev pub GivesExactly : Type 0
GivesExactly = (history : History) (base a b upto : ℕ) (cells : Cells) → IsFuzzy history a b cells
    → base ≤ a → a ≤ b
    → b ≤ upto → AreAlike (after (between history base upto) cells) (cells_at history upto)

-- after any first part of these changes, be it in the middle of a record, the cells are fuzzy from
-- a on
abbrev pub EachMomentIsBetween : Type 0
EachMomentIsBetween = (history : History) (a b k : ℕ) (cells : Cells) → AllSetOnce history
    → IsFuzzy history a b cells
    → a ≤ k → (n : ℕ) → IsFuzzy history a (max b k) (after (take n (between history a k)) cells)

-- what a crash leaves of moments that are all fuzzy is fuzzy between the same points
abbrev pub LeftIsBetween : Type 0
LeftIsBetween = (history : History) (a b : ℕ) (synced : Cells) (changes : List Change)
    (left : Cells)
    → ((n : ℕ) → IsFuzzy history a b (after (take n changes) synced))
    → MayBeLeft synced changes left
    → IsFuzzy history a b left

-- the points may lie further apart
abbrev pub IsWider : Type 0
IsWider = (history : History) (a b low high : ℕ) (cells : Cells) → IsFuzzy history a b cells
    → low ≤ a → b ≤ high
    → IsFuzzy history low high cells

-- another history may stand for it that has the same first b records
abbrev pub IsProlonged : Type 0
IsProlonged = (history other : History) (a b : ℕ) (cells : Cells) → IsFuzzy history a b cells
    → take b history ≡ take b other → IsFuzzy other a b cells

-- cells that are alike stand for the same book
abbrev pub AlikeCellsStand : Type 0
AlikeCellsStand = (cells others : Cells) (entries : List Entry) → AreAlike cells others
    → StandForBook others entries
    → StandForBook cells entries
