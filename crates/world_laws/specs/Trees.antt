-- The tree of a data server, read in its log over its disk.
use Rattle.std.specs.Prelude.{◌≡◌, ℕ, ◌≤◌, ◌⊎◌, false, Option, Some}
use Rattle.fuzzy_cells.specs.Disk.{Disk, IsBetween, reads}
use Rattle.fuzzy_cells.specs.Fuzzy.{AreAlike}
use Rattle.group_rules.specs.Places.{Place, is_p2}
use Rattle.group_rules.specs.State.{Group, Live, Log, Open, top}
use Rattle.group_rules.specs.Step.{list_of}
use Rattle.group_safety.specs.Disks.{Disks, DisksOk}
use Rattle.group_safety.specs.Laws.{Whole}
use Rattle.file_tree.specs.Book.{Entry}
use Rattle.harp_cells.specs.Effect.{Cells}
use Rattle.harp_store.specs.Disk.{Moments, cells_told}
use Rattle.node.specs.Stock.{Stock}
use Rattle.record_changes.specs.Records.{history_of}
use Rattle.world_laws.specs.StockLaws.{log_with}
use Rattle.world_laws.specs.Stocks.{HasStock}
use Rattle.tree_log.specs.Reading.{HoldsTree}

-- the log of a server with this stock, over a store that tells these moments, holds the tree after
-- each number of its list's updates from `far` on, and after CP where it is settled
pub record TreeIsHeld (g : Group Entry) (q : Place) (k : Stock) (far : ℕ)
    (told : Option Moments) : Type 0 where
  pub upto : (upto : ℕ) → far ≤ upto → upto ≤ top (g.server q)
      → HoldsTree (list_of g q) upto (log_with (g.server q) k.log) told
  pub at_cp : ((g.server q).mode ≡ Open) ⊎ ((g.server q).mode ≡ Live)
      → HoldsTree (list_of g q) (g.server q).cp (log_with (g.server q) k.log) told

-- THE TREE OF A DATA SERVER that holds a log can be read in its records over its disk, where the
-- disk is between its mark and how far it may be, in the history of the book's updates. What cells
-- of saved logs read as counts for nothing
abbrev pub TreesAreHeld : Type 0
TreesAreHeld = (g : Group Entry) → Whole g → (disks : Disks) → DisksOk g disks
    → (q : Place) → is_p2 q ≡ false → (g.server q).held ≡ Log
    → (k : Stock) → HasStock g q k
    → (disk : Disk)
    → IsBetween (history_of g.committed) (g.server q).lb (g.server q).ap (disks q) disk
    → (told : Option Moments) (cells : Cells) → cells_told told ≡ Some cells
    → AreAlike cells (reads disk)
    → TreeIsHeld g q k (disks q) told
