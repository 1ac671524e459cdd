-- What applying makes of a disk whose cells are fuzzy.
use Rattle.std.specs.Prelude.{ℕ, ◌≤◌, max, Option, Some}
use Rattle.harp_store.specs.Disk.{AtEachMoment, CrashesLeave, Disk, Moments, reads}
use Rattle.fuzzy_cells.specs.History.{History, cells_at}
use Rattle.fuzzy_cells.specs.Fuzzy.{AreAlike, IsFuzzy}
use Rattle.applier.specs.FuzzyDisk.{IsFuzzyDisk}

-- at each moment of applying records up to an index the disk is fuzzy between LB and the larger of
-- m and it, AP being as before; and so is each image that a crash at some moment might have left
pub record StaysFuzzy (history : History) (lb ap to m : ℕ) (h : Moments) (new : Option Moments) : Type 0 where
  pub moments : AtEachMoment (IsFuzzyDisk history lb ap (max m to)) (Some h) new
  pub crashes : CrashesLeave (λ image. IsFuzzy history lb (max m to) image.cells) h new

-- once all are applied, AP is the index; and where the disk was nowhere ahead of it, reads give
-- each cell exactly
pub record IsFuzzyTo (history : History) (lb to m : ℕ) (d : Disk) : Type 0 where
  pub disk : IsFuzzyDisk history lb to (max m to) d
  pub exact : m ≤ to → AreAlike (reads d) (cells_at history to)
