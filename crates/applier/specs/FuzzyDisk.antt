-- A disk whose cells are fuzzy.
use Rattle.std.specs.Prelude.{◌≡◌, ℕ, ◌≤◌, false, List, length, take, drop, Option, Some, None}
use Rattle.harp_cells.specs.declared.cell.Cell.{Cell}
use Rattle.harp_cells.specs.declared.value.Value.{Value}
use Rattle.harp_cells.specs.declared.change.Change.{Change}
use Rattle.harp_store.specs.Mark.{MarkFields}
use Rattle.harp_store.specs.Disk.{Disk, MayHold, reads}
use Rattle.fuzzy_cells.specs.History.{History}
use Rattle.fuzzy_cells.specs.Fuzzy.{IsFuzzy, IsOfMoment, is_saved}

-- THE DISK IS FUZZY: what reads give of it is between AP and m, and each value that a crash may
-- leave of a cell is between LB and m
pub record IsFuzzyDisk (history : History) (lb ap m : ℕ) (d : Disk) : Type 0 where
  pub lb_ap : lb ≤ ap
  pub ap_m : ap ≤ m
  pub now : IsFuzzy history ap m (reads d)
  pub left : (c : Cell) (v : Option Value) → is_saved c ≡ false → MayHold d c v
      → IsOfMoment history lb m c v

-- the index up to which a mark says that the disk has all updates
abbrev pub lb_of : Option MarkFields → ℕ
lb_of None = 0
lb_of (Some mark) = mark.lb

-- the disk is fuzzy from the index of its own mark on
abbrev pub IsFuzzyByMark : History → ℕ → ℕ → Disk → Type 0
IsFuzzyByMark history ap m d = IsFuzzyDisk history (lb_of d.mark) ap m d

-- the records of a log are those of the history after its base
abbrev pub AreRecordsOf : History → ℕ → List (List Change) → Type 0
AreRecordsOf history base records = records ≡ take (length records) (drop base history)
