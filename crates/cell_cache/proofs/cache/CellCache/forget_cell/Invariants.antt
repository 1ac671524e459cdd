use Rattle.std.proofs.Common.{◌≡◌, length}
use Rattle.harp_cells.specs.declared.change.Change.TheVariants as change
use Rattle.cell_cache.specs.Entries.{left_by}
use Rattle.cell_cache.proofs.cache.CellCache.forget_cell.Given as goal

abbrev pub invariant-loop-cell : goal.invariant-loop-cell
invariant-loop-cell l = record {
  left : left_by (change.Erase l.cell) l.self.entries ≡ left_by (change.Erase l.cell) l.fn.self.entries;
  places : l.self.places ≡ l.fn.self.places;
}

abbrev pub decreases-loop-cell : goal.decreases-loop-cell
decreases-loop-cell l = length l.self.entries
