use Rattle.std.proofs.Common.{refl, subst, sym, ◌∙◌, ap}
use Rattle.harp_cells.specs.Effect.{Reads}
use Rattle.harp_store.specs.Disk.{cells_told}
use Rattle.node.proofs.Asks.{cached_at}
use Rattle.node.proofs.Stores.{log_at, store_fits, stores_active}
use Rattle.node.specs.State.{cached_in}
use Rattle.node.specs.Stored.{log_in}
use Rattle.tree_log.specs.Committed.{committed_over}
use Rattle.volatile_log.specs.Log.{LogValue}
use Rattle.node.proofs.node.Node.show_cell.Goals as goal

pub log_cp-cp-requires : goal.log_cp-cp-requires
log_cp-cp-requires g c =
    let n = c.self.inside in
    stores_active n.me n.mark n.horizon n.served n.duty n.state c.args.self.now c.self.view_is
    (sym c.stores.ensures ∙ c.if-not-stores.false)

pub log_cell-requires-clause-active : goal.log_cell-requires-clause-active
log_cell-requires-clause-active g c =
    let n = c.self.inside in
    stores_active n.me n.mark n.horizon n.served n.duty n.state c.args.self.now c.self.view_is
    (sym c.stores.ensures ∙ c.if-not-stores.false)

pub log_cell-requires-clause-cached : goal.log_cell-requires-clause-cached
log_cell-requires-clause-cached g c =
    let n = c.self.inside in
    cached_at n.me n.mark n.horizon n.served n.duty n.state n.state c.args.self.now
    (cells_told (g.D.Store.told c.args.store.now)) c.self.view_is refl c.requires.cached

pub invariant_of-self-2 : goal.invariant_of-self-2
invariant_of-self-2 g c =
    let n = c.self.inside in (
      c.self.invariant.0,
      store_fits n.me n.mark n.horizon n.served n.duty n.state c.log_cell.new.state c.args.self.now
          (log_in n.state) (cached_in c.log_cell.new.state) c.self.view_is
          (sym c.stores.ensures ∙ c.if-not-stores.false) c.self.invariant.1 c.log_cell.ensures.same refl,
    )

pub returns-clause-shown : goal.returns-clause-shown
returns-clause-shown g c =
    let n = c.self.inside in
    let st = sym c.stores.ensures ∙ c.if-not-stores.false in
    let log = log_at n.me n.mark n.horizon n.served n.duty n.state c.args.self.now c.self.view_is st
    c.self.invariant.1 in (
      st,
      refl,
      c.log_cp-cp.ensures.value ∙ ap (λ (x : LogValue). x.cp) (sym log),
      subst (λ (x : LogValue). Reads (committed_over x
          (cells_told (g.D.Store.told c.args.store.now))) c.args.cell c.in_ok-value.value) (sym log)
          c.in_ok-value.ensures.value,
    )
