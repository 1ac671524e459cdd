use Rattle.std.proofs.Common.{◌≡◌, length}
use Rattle.cell_cache.specs.Entries.{left_by}
use Rattle.cell_cache.proofs.cache.CellCache.forget_each.Given as goal

abbrev pub invariant-loop-cell : goal.invariant-loop-cell
invariant-loop-cell l = record {
  left : left_by l.change l.self.entries ≡ left_by l.change l.fn.self.entries;
  places : l.self.places ≡ l.fn.self.places;
}

abbrev pub decreases-loop-cell : goal.decreases-loop-cell
decreases-loop-cell l = length l.self.entries
