use Rattle.std.proofs.Common.{sym, subst}
use Rattle.cell_cache.specs.Entries.{AreOf}
use Rattle.harp_cells.specs.declared.reads.CellFault.TheVariants as cell
use Rattle.harp_store.specs.Disk.{cells_told}
use Rattle.tree_log.proofs.Faults.{counts_as, counts_none}
use Rattle.replica.specs.Following.{Following}
use Rattle.replica.proofs.partner.Partner.list.Goals as goal

pub list-requires : goal.list-requires
list-requires g c =
    subst (λ (f : Following). AreOf (cells_told (g.D.Store.told c.args.store.now)) f.cached)
    (sym c.self.view_is) c.requires

pub returns-in_err-listing-clause-reads : goal.returns-in_err-listing-clause-reads
returns-in_err-listing-clause-reads g c = record {
  kept = c.list.ensures.kept;
  cached = c.list.ensures.cached;
}

pub returns-clause-reads : goal.returns-clause-reads
returns-clause-reads g c = record {
  kept = c.list.ensures.kept;
  cached = c.list.ensures.cached;
}

pub returns-in_err-listing-clause-faults : goal.returns-in_err-listing-clause-faults
returns-in_err-listing-clause-faults g c = counts_as c.from_residual.result
    c.in_err-listing.field-0.0 cell.StoreFailed c.list.result _ _ c.from_residual.ensures.1
    c.in_err-listing.was (record {
      rose = c.list.ensures.rose;
      count = c.list.ensures.count;
    })

pub returns-clause-faults : goal.returns-clause-faults
returns-clause-faults g c = counts_none _ _ _ _ c.list.ensures.count
