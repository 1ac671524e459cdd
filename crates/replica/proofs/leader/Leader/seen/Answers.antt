use Rattle.std.proofs.Common.{◌≡◌, sym, subst}
use Rattle.std.specs.Prelude.{IfOk}
use Rattle.cell_cache.specs.Entries.{AreOf}
use Rattle.dedup.specs.Repeats.{seen_after}
use Rattle.file_tree.specs.Book.{last_of}
use Rattle.harp_store.specs.Disk.{cells_told}
use Rattle.tree_log.specs.Reading.{HoldsTree}
use Rattle.tree_log.proofs.Holding.{widened}
use Rattle.replica.specs.Leading.{Leading}
use Rattle.volatile_log.specs.Log.{top}
use Rattle.replica.proofs.leader.Leader.seen.Goals as goal

pub seen-requires : goal.seen-requires
seen-requires g c =
    subst (λ (l : Leading). AreOf (cells_told (g.D.Store.told c.args.store.now)) l.cached)
    (sym c.self.view_is) c.requires

pub returns-clause-seen : goal.returns-clause-seen
returns-clause-seen g c list h =
    let told = g.D.Store.told c.args.store.now in
    let log = c.self.inside.log.log in
    let here : HoldsTree list log.cp log told =
    subst (λ (l : Leading). HoldsTree list l.log.cp l.log told) (sym c.self.view_is) h in
    subst (λ (l : Leading). IfOk c.seen.result (λ s. s
    ≡ seen_after (last_of c.args.asker.client list) c.args.asker.number l.log.cp))
    c.self.view_is
    (c.seen.ensures.seen list
    (widened list log.cp (top log) log told c.top.ensures.order.cp here))
