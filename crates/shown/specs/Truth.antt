-- What is shown truly of the records of a group.
use Rattle.std.specs.Prelude.{◌≡◌, ◌+◌, ◌-◌, ◌≤◌, ◌<◌, ◌^◌, false, length, map, take, drop}
use Rattle.fuzzy_cells.specs.Fuzzy.{is_saved}
use Rattle.fuzzy_cells.specs.History.{History, cells_at}
use Rattle.shown.specs.declared.shown.Shown.{Shown}
use Rattle.shown.specs.declared.shown.Shown.TheVariants as shown

-- SHOWN TRULY: what a cell holds after so many records of the history, where it isn't one of a
-- saved log, or the records of it from an index on. That records are gone tells nothing of it
abbrev pub IsShownOf : History → Shown → Type 0
IsShownOf history (shown.Cell c v cp) =
    (cp ≤ length history) × (is_saved c ≡ false → v ≡ cells_at history cp c)
IsShownOf history (shown.Records first records) =
    (1 ≤ first) × (first - 1 + length records ≤ length history)
    × (map (λ r. r.changes) records ≡ take (length records) (drop (first - 1) history))
IsShownOf history (shown.Gone base) = Unit {0}

-- a shown CP and each shown index are below 2^62
abbrev pub IsLowShown : Shown → Type 0
IsLowShown (shown.Cell c v cp) = cp < 2 ^ 62
IsLowShown (shown.Records first records) = first + length records ≤ 2 ^ 62
IsLowShown (shown.Gone base) = Unit {0}
