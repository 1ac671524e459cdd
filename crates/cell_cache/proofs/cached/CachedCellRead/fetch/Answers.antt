use Rattle.harp_store.specs.Disk.{cells_told}
use Rattle.cell_cache.proofs.cached.CachedCellRead.fetch.Goals as goal

pub invariant_of-self : goal.invariant_of-self
invariant_of-self g c = record { are = c.promote-self.ensures.kept (cells_told (g.D.Store.told c.args.self.now.store.now)) c.args.self.now.are }

pub invariant_of-self-in-Break-1 : goal.invariant_of-self-in-Break-1
invariant_of-self-in-Break-1 g c =
    let told = cells_told (g.D.Store.told c.args.self.now.store.now) in
    record { are = rw c.read.ensures.kept (c.insert.ensures.kept told (c.promote-self.ensures.kept told c.args.self.now.are) c.in-Ok.ensures.value) }

pub invariant_of-self-in-Ok : goal.invariant_of-self-in-Ok
invariant_of-self-in-Ok g c =
    let told = cells_told (g.D.Store.told c.args.self.now.store.now) in
    record { are = rw c.read.ensures.kept (c.insert.ensures.kept told (c.promote-self.ensures.kept told c.args.self.now.are) c.in-Ok.ensures.value) }

pub invariant_of-self-in-Err-1 : goal.invariant_of-self-in-Err-1
invariant_of-self-in-Err-1 g c =
    record { are = rw c.read.ensures.kept (c.promote-self.ensures.kept (cells_told (g.D.Store.told c.args.self.now.store.now)) c.args.self.now.are) }
