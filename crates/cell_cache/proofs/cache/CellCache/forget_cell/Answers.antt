use Rattle.std.proofs.Common.{sym, ap, ◌∙◌}
use Rattle.harp_cells.specs.declared.change.Change.TheVariants as change
use Rattle.cell_cache.specs.Entries.{Kept, left_by}
use Rattle.cell_cache.proofs.Keeping.{erased_itself, forgotten, kept_is, none_erased}
use Rattle.cell_cache.proofs.cache.CellCache.forget_cell.Goals as goal

pub loop-cell-preserved : goal.loop-cell-preserved
loop-cell-preserved c = record {
  left = ap (λ (k : Kept). left_by (change.Erase c.args.cell) k.entries) c.drop_entry.ensures.entries
      ∙ forgotten c.args.cell (change.Erase c.args.cell) c.loop-cell.self.entries (erased_itself c.args.cell)
      ∙ c.loop-cell.invariant.left;
  places = ap (λ (k : Kept). k.places) c.drop_entry.ensures.entries ∙ c.loop-cell.invariant.places;
}

pub returns : goal.returns
returns c = kept_is c.loop-cell.self _ _
    (sym (none_erased c.args.cell c.loop-cell.self.entries (sym c.has.ensures ∙ c.loop-cell-test.false)) ∙ c.loop-cell.invariant.left)
    c.loop-cell.invariant.places
