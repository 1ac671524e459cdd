use Rattle.std.proofs.Common.{ap, ◌∙◌}
use Rattle.cell_cache.specs.Entries.{Kept, has_entry}
use Rattle.cell_cache.proofs.Keeping.{has_by_test}
use Rattle.cell_cache.proofs.cache.CellCache.has.Goals as goal

pub returns : goal.returns
returns c = c.contains.ensures ∙ has_by_test c.args.cell c.self.inside.entries.entries
    ∙ ap (λ (k : Kept). has_entry c.args.cell k.entries) c.self.view_is
