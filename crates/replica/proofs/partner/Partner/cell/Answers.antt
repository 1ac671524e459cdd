use Rattle.std.proofs.Common.{sym, subst}
use Rattle.cell_cache.specs.Entries.{AreOf}
use Rattle.harp_store.specs.Disk.{cells_told}
use Rattle.replica.specs.Following.{Following}
use Rattle.replica.proofs.partner.Partner.cell.Goals as goal

pub cell-requires : goal.cell-requires
cell-requires g c =
    subst (λ (f : Following). AreOf (cells_told (g.D.Store.told c.args.store.now)) f.cached)
    (sym c.self.view_is) c.requires
