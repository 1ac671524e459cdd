-- What the log over fuzzy cells gives.
use Rattle.std.specs.Prelude.{◌≡◌, ℕ, ◌+◌, ◌≤◌, length, take, drop}
use Rattle.harp_cells.specs.Effect.{Cells}
use Rattle.fuzzy_cells.specs.History.{History, cells_at}
use Rattle.fuzzy_cells.specs.Fuzzy.{AreAlike, IsFuzzy}
use Rattle.overlay.specs.Overlay.{cells_over}

-- a log has the records of a history after its base
pub record IsLogOf (history : History) (base : ℕ) (records : History) : Type 0 where
  pub within : base + length records ≤ length history
  pub are : records ≡ take (length records) (drop base history)

-- over cells that are fuzzy between a and m, with a base at most a, and up to at least m and at
-- most the last record, each cell is the one after `upto` records
abbrev pub ReadsExactly : Type 0
ReadsExactly = (history : History) (base : ℕ) (records : History) (a m upto : ℕ) (under : Cells)
    → IsLogOf history base records → IsFuzzy history a m under → base ≤ a → a ≤ m → m ≤ upto
    → upto ≤ base + length records
    → AreAlike (cells_over base records upto under) (cells_at history upto)
