use Rattle.std.proofs.Common.{◌≡◌, Some, le_refl, refl, subst, sym, true≢false, ◌∙◌, ap}
use Rattle.std.proofs.lemmas.Result.{IfOk-from_err}
use Rattle.harp_store.specs.Disk.{cells_told}
use Rattle.node.proofs.Asks.{cached_at}
use Rattle.node.proofs.Faults.{once_done, once_read}
use Rattle.node.proofs.Stores.{alive_with, log_at, stores_active}
use Rattle.node.specs.Node.{NodeValue}
use Rattle.tree_log.specs.Reading.{HoldsTree}
use Rattle.replica.specs.Listing.{listing_at}
use Rattle.volatile_log.specs.Log.{LogValue}
use Rattle.node.proofs.Stocked.{logged_stock}
use Rattle.node.specs.State.{cached_in}
use Rattle.node.specs.Stock.{stock, stock_in}
use Rattle.node.specs.Stored.{log_in}
use Rattle.node.proofs.node.Node.list.Goals as goal

pub list_log-requires-clause-active : goal.list_log-requires-clause-active
list_log-requires-clause-active g c =
    let n = c.self.inside in
    stores_active n.me n.mark n.horizon n.served n.duty n.state c.args.self.now c.self.view_is
    (sym c.stores.ensures ∙ c.if-not-stores.false)

pub list_log-requires-clause-cached : goal.list_log-requires-clause-cached
list_log-requires-clause-cached g c =
    let n = c.self.inside in
    cached_at n.me n.mark n.horizon n.served n.duty n.state n.state c.args.self.now
    (cells_told (g.D.Store.told c.args.store.now)) c.self.view_is refl c.requires.cached

pub returns-clause-stock : goal.returns-clause-stock
returns-clause-stock g c =
    let n = c.self.inside in
    let log = log_in n.state in
    ap stock_in c.list_log.ensures.same
    ∙ logged_stock n.state (log)
    (cached_in c.list_log.new.state) refl ∙ ap stock c.self.view_is

pub returns-then-not-stores-clause-tells : goal.returns-then-not-stores-clause-tells
returns-then-not-stores-clause-tells g c = record {
  listing = λ list st. absurd (true≢false (sym st ∙ sym c.stores.ensures ∙ c.if-not-stores.true));
  silent = λ no. refl;
  records = refl;
}

pub returns-then-not-stores-clause-keeps : goal.returns-then-not-stores-clause-keeps
returns-then-not-stores-clause-keeps g c = record { me = refl; mark = refl; kept = refl }

pub returns-then-not-stores-clause-runs : goal.returns-then-not-stores-clause-runs
returns-then-not-stores-clause-runs g c = record {
  up = c.requires.up;
  cached = c.requires.cached;
}

pub returns-then-not-stores-clause-faults : goal.returns-then-not-stores-clause-faults
returns-then-not-stores-clause-faults g c = once_done _ _ _ (le_refl _)

pub returns-in_err-list_log-clause-tells : goal.returns-in_err-list_log-clause-tells
returns-in_err-list_log-clause-tells g c =
    let n = c.self.inside in record {
      listing = IfOk-from_err c.from_residual.result _ c.from_residual.ensures.0;
      silent = λ no. absurd (true≢false (sym c.if-not-stores.false ∙ c.stores.ensures ∙ no));
      records = c.list_log.ensures.records;
    }

pub returns-in_err-list_log-clause-keeps : goal.returns-in_err-list_log-clause-keeps
returns-in_err-list_log-clause-keeps g c = record {
  me = ap (λ (n : NodeValue). n.me) c.self.view_is;
  mark = ap (λ (n : NodeValue). n.mark) c.self.view_is;
  kept = c.list_log.ensures.reads.kept;
}

pub returns-clause-tells : goal.returns-clause-tells
returns-clause-tells g c =
    let n = c.self.inside in record {
      listing = λ list st. subst (λ (x : LogValue). HoldsTree list x.cp x
          (g.D.Store.told c.args.store.now)
          → c.list_log.new.outs.listing ≡ Some (listing_at x.cp list))
          (sym (log_at n.me n.mark n.horizon n.served n.duty n.state c.args.self.now
          c.self.view_is st c.self.invariant.1)) (c.in_ok-list_log.ensures.listing list);
      silent = λ no. absurd (true≢false (sym c.if-not-stores.false ∙ c.stores.ensures ∙ no));
      records = c.list_log.ensures.records;
    }

pub returns-clause-keeps : goal.returns-clause-keeps
returns-clause-keeps g c = record {
  me = ap (λ (n : NodeValue). n.me) c.self.view_is;
  mark = ap (λ (n : NodeValue). n.mark) c.self.view_is;
  kept = c.list_log.ensures.reads.kept;
}

pub returns-in_err-list_log-clause-runs : goal.returns-in_err-list_log-clause-runs
returns-in_err-list_log-clause-runs g c = IfOk-from_err c.from_residual.result _
    c.from_residual.ensures.0

pub returns-in_err-list_log-clause-faults : goal.returns-in_err-list_log-clause-faults
returns-in_err-list_log-clause-faults g c = once_read c.from_residual.result
    c.in_err-list_log.field-0.0 c.list_log.result _ _ c.from_residual.ensures.1
    c.in_err-list_log.was c.list_log.ensures.faults.rose c.list_log.ensures.faults.count

pub returns-clause-runs : goal.returns-clause-runs
returns-clause-runs g c =
    let n = c.self.inside in record {
      up = alive_with n.state c.list_log.new.state (log_in n.state)
          (cached_in c.list_log.new.state) (stores_active n.me n.mark n.horizon n.served n.duty
          n.state c.args.self.now c.self.view_is (sym c.stores.ensures ∙ c.if-not-stores.false))
          c.list_log.ensures.same;
      cached = c.list_log.ensures.reads.cached;
    }

pub returns-clause-faults : goal.returns-clause-faults
returns-clause-faults g c = once_done _ _ _ c.list_log.ensures.faults.count
