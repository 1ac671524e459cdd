use Rattle.std.proofs.Common.{subst}
use Rattle.cell_cache.specs.Entries.{AreUpTo, Kept}
use Rattle.cell_cache.proofs.cache.CellCache.last_block.Goals as goal

pub returns : goal.returns
returns c =
    subst (λ (k : Kept). AreUpTo c.self.inside.last_block k.entries) c.self.view_is
    c.self.invariant
