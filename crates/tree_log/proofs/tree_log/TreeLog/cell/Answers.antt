use Rattle.std.proofs.Common.{rules, sym, subst}
use Rattle.cell_cache.specs.Entries.{AreOf}
use Rattle.harp_store.specs.Disk.{cells_told}
use Rattle.tree_log.specs.TreeLog.{TreeLogValue}
use Rattle.tree_log.proofs.tree_log.TreeLog.cell.Goals as goal

pub new-cached-requires : goal.new-cached-requires
new-cached-requires g c =
    subst (λ (t : TreeLogValue). AreOf (cells_told (g.D.Store.told c.args.store.now)) t.cached)
    (sym c.self.view_is) c.requires

pub returns-in_err-follow-clause-cached : goal.returns-in_err-follow-clause-cached
returns-in_err-follow-clause-cached g c =
    subst (λ (t : TreeLogValue). AreOf (cells_told (g.D.Store.told c.args.store.now)) t.cached)
    (sym c.self.view_is) c.requires

pub returns-clause-cached : goal.returns-clause-cached
returns-clause-cached g c cells is = c.value_over.new.under.are cells (search (rules, is))
