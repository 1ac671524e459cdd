use Rattle.std.proofs.Common.{subst}
use Rattle.cell_cache.specs.Entries.{AreOf}
use Rattle.harp_store.specs.Disk.{cells_told}
use Rattle.node.specs.State.{cached_in}
use Rattle.node.specs.declared.state.State.{State}
use Rattle.node.proofs.wants.log_cell.Goals as goal

pub cell-requires : goal.cell-requires
cell-requires g c =
    subst (λ (s : State). AreOf (cells_told (g.D.Store.told c.args.store.now)) (cached_in s))
    c.in-Leads.is c.requires.cached

pub cell-requires-in-Follows : goal.cell-requires-in-Follows
cell-requires-in-Follows g c =
    subst (λ (s : State). AreOf (cells_told (g.D.Store.told c.args.store.now)) (cached_in s))
    c.in-Follows.is c.requires.cached
