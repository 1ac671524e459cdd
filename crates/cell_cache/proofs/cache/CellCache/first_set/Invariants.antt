use Rattle.std.proofs.Common.{◌≡◌, true}
use Rattle.harp_cells.specs.declared.cell.Cell.{Cell}
use Rattle.cell_cache.specs.Entries.{has_entry, left_by}
use Rattle.cell_cache.proofs.cache.CellCache.first_set.Given as goal

-- where the change sets none of the cells that are left, it sets none at all
abbrev pub invariant-loop-cell : goal.invariant-loop-cell
invariant-loop-cell l = record {
  can_next : (goal.iterator-loop-cell).can_next l.cell-iterator;
  finite : (goal.iterator-loop-cell).is_finite l.cell-iterator;
  none : left_by l.change l.cell-iterator ≡ l.cell-iterator → left_by l.change l.self.entries ≡ l.self.entries;
  within : (c : Cell) → has_entry c l.cell-iterator ≡ true → has_entry c l.self.entries ≡ true;
}
