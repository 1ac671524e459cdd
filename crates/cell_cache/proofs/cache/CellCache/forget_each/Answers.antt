use Rattle.std.proofs.Common.{ap, ◌∙◌}
use Rattle.cell_cache.specs.Entries.{Kept, left_by}
use Rattle.cell_cache.proofs.Keeping.{forgotten}
use Rattle.cell_cache.proofs.cache.CellCache.forget_each.Goals as goal

pub loop-cell-preserved : goal.loop-cell-preserved
loop-cell-preserved c = record {
  left = ap (λ (k : Kept). left_by c.args.change.now k.entries) c.drop_entry.ensures.entries
      ∙ forgotten c.in-Some.cell c.args.change.now c.loop-cell.self.entries c.in-Some.ensures.found
      ∙ c.loop-cell.invariant.left;
  places = ap (λ (k : Kept). k.places) c.drop_entry.ensures.entries ∙ c.loop-cell.invariant.places;
}
