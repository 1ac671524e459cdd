use Rattle.std.proofs.Common.{◌≤◌, List, le_refl, refl, subst, sym, true≢false, ◌∙◌, ap}
use Rattle.std.proofs.lemmas.Result.{IfOk-from_err}
use Rattle.applier.specs.Fuzzy.{IsFuzzyTo, StaysFuzzy}
use Rattle.applier.specs.FuzzyDisk.{AreRecordsOf, IsFuzzyDisk}
use Rattle.harp_cells.specs.declared.change.Change.{Change}
use Rattle.harp_store.specs.Disk.{AfterPart, Now, after_changes, cells_told}
use Rattle.node.proofs.Asks.{cached_at}
use Rattle.node.proofs.Faults.{once_done, once_stored}
use Rattle.node.proofs.Stores.{alive_with, applied_made, changes_at, log_at, log_with, no_changes, none_done, none_part, store_fits, stores_active}
use Rattle.node.specs.Node.{NodeValue}
use Rattle.node.specs.State.{cached_in}
use Rattle.node.specs.Stored.{changes_made, log_in}
use Rattle.tree_log.specs.Applying.{applied_by}
use Rattle.tree_log.specs.Reading.{HoldsTree}
use Rattle.tree_log.specs.Storing.{AppliesFuzzy}
use Rattle.tree_log.specs.TreeLog.{changes_in}
use Rattle.volatile_log.specs.Log.{LogValue, applied_to}
use Rattle.node.proofs.Stocked.{logged_stock}
use Rattle.node.specs.Stock.{stock, stock_in}
use Rattle.node.proofs.node.Node.apply.Goals as goal

pub apply_log-requires-clause-active : goal.apply_log-requires-clause-active
apply_log-requires-clause-active g c =
    let n = c.self.inside in
    stores_active n.me n.mark n.horizon n.served n.duty n.state c.args.self.now c.self.view_is
    (sym c.stores.ensures ∙ c.if-not-stores.false)

pub apply_log-requires-clause-cached : goal.apply_log-requires-clause-cached
apply_log-requires-clause-cached g c =
    let n = c.self.inside in
    cached_at n.me n.mark n.horizon n.served n.duty n.state n.state c.args.self.now
    (cells_told (g.D.Store.told c.args.store.now)) c.self.view_is refl c.requires.cached

pub invariant_of-self-2 : goal.invariant_of-self-2
invariant_of-self-2 g c =
    let n = c.self.inside in
    let log = log_in n.state in (
      c.self.invariant.0,
      store_fits n.me n.mark n.horizon n.served n.duty n.state c.apply_log.new.state
          c.args.self.now (applied_to log (applied_by c.args.most log))
          (cached_in c.apply_log.new.state) c.self.view_is
          (sym c.stores.ensures ∙ c.if-not-stores.false) c.self.invariant.1
          c.in_ok-apply_log.ensures.log refl,
    )

pub returns-clause-makes : goal.returns-clause-makes
returns-clause-makes g c items clock outs =
    let n = c.self.inside in
    applied_made n.me n.mark n.horizon n.served n.duty n.state c.apply_log.new.state
    c.args.self.now c.args.most (cached_in c.apply_log.new.state) items clock outs c.self.view_is
    (sym c.stores.ensures ∙ c.if-not-stores.false) c.self.invariant.1
    c.in_ok-apply_log.ensures.log

pub returns-clause-tree : goal.returns-clause-tree
returns-clause-tree g c list upto le t =
    let n = c.self.inside in
    let st = sym c.stores.ensures ∙ c.if-not-stores.false in
    let log = log_at n.me n.mark n.horizon n.served n.duty n.state c.args.self.now c.self.view_is st
    c.self.invariant.1 in
    let old = log_in n.state in
    let to = applied_to old (applied_by c.args.most old) in
    let new = c.apply_log.new.state in
    let fits = store_fits n.me n.mark n.horizon n.served n.duty n.state new c.args.self.now to
    (cached_in new) c.self.view_is st c.self.invariant.1 c.in_ok-apply_log.ensures.log refl in
    let active = stores_active n.me n.mark n.horizon n.served n.duty n.state c.args.self.now
    c.self.view_is st in
    subst (λ (x : LogValue). HoldsTree list upto x (g.D.Store.told c.apply_log.new.store))
    (sym (log_with n.me n.mark n.horizon n.served n.duty n.state new to (cached_in new) active
    c.in_ok-apply_log.ensures.log fits))
    (c.apply_log.ensures.tree list upto (subst (λ (x : LogValue). x.cp ≤ upto) log le)
    (subst (λ (x : LogValue). HoldsTree list upto x (g.D.Store.told c.args.store.now)) log t))

pub returns-clause-stock : goal.returns-clause-stock
returns-clause-stock g c =
    let n = c.self.inside in
    let log = log_in n.state in
    ap stock_in c.in_ok-apply_log.ensures.log
    ∙ logged_stock n.state (applied_to log (applied_by c.args.most log))
    (cached_in c.apply_log.new.state) refl ∙ ap stock c.self.view_is

pub returns-then-not-stores-clause-applies : goal.returns-then-not-stores-clause-applies
returns-then-not-stores-clause-applies g c =
    let n = c.args.self.now in record {
      me = refl;
      mark = refl;
      done = none_done (changes_made c.args.most n) (g.D.Store.told c.args.store.now)
          (no_changes n c.args.most (sym c.stores.ensures ∙ c.if-not-stores.true));
      part = none_part (changes_made c.args.most n) (g.D.Store.told c.args.store.now);
    }

pub returns-then-not-stores-clause-runs : goal.returns-then-not-stores-clause-runs
returns-then-not-stores-clause-runs g c = record {
  up = c.requires.up;
  cached = c.requires.cached;
}

pub returns-then-not-stores-clause-faults : goal.returns-then-not-stores-clause-faults
returns-then-not-stores-clause-faults g c = once_done _ _ _ (le_refl _)

pub returns-then-not-stores-clause-fuzzy : goal.returns-then-not-stores-clause-fuzzy
returns-then-not-stores-clause-fuzzy g c st =
    absurd (true≢false (sym st ∙ sym c.stores.ensures ∙ c.if-not-stores.true))

pub returns-in_err-apply_log-clause-fuzzy : goal.returns-in_err-apply_log-clause-fuzzy
returns-in_err-apply_log-clause-fuzzy g c st =
    let n = c.self.inside in
    let here = subst (λ (x : LogValue). AppliesFuzzy c.apply_log.result c.args.most x
    (g.D.Store.told c.args.store.now) (g.D.Store.told c.apply_log.new.store))
    (sym (log_at n.me n.mark n.horizon n.served n.duty n.state c.args.self.now c.self.view_is st
    c.self.invariant.1)) c.apply_log.ensures.fuzzy in record {
      fuzzy = here.fuzzy;
      reached = λ history lb m h told once records fuzzy. IfOk-from_err c.from_residual.result _
          c.from_residual.ensures.0;
    }

pub returns-clause-fuzzy : goal.returns-clause-fuzzy
returns-clause-fuzzy g c st =
    let n = c.self.inside in
    let left = g.D.Store.told c.apply_log.new.store in
    let log = sym (log_at n.me n.mark n.horizon n.served n.duty n.state c.args.self.now
    c.self.view_is st c.self.invariant.1) in record {
      fuzzy = λ history lb m h told once.
          subst (λ (x : LogValue). AreRecordsOf history x.base (changes_in x.records)
          → IsFuzzyDisk history lb x.ap m h.now
          → StaysFuzzy history lb x.ap (applied_by c.args.most x) m h left) log
          (c.in_ok-apply_log.ensures.fuzzy.fuzzy history lb m h told once);
      reached = λ history lb m h told once.
          subst (λ (x : LogValue). AreRecordsOf history x.base (changes_in x.records)
          → IsFuzzyDisk history lb x.ap m h.now
          → Now (IsFuzzyTo history lb (applied_by c.args.most x) m) left) log
          (c.in_ok-apply_log.ensures.fuzzy.reached history lb m h told once);
    }

pub returns-in_err-apply_log-clause-applies : goal.returns-in_err-apply_log-clause-applies
returns-in_err-apply_log-clause-applies g c =
    let n = c.self.inside in
    let told = g.D.Store.told c.args.store.now in
    let same = changes_at n.me n.mark n.horizon n.served n.duty n.state c.args.self.now c.args.most
    c.self.view_is (sym c.stores.ensures ∙ c.if-not-stores.false) c.self.invariant.1 in record {
      me = ap (λ (n : NodeValue). n.me) c.self.view_is;
      mark = ap (λ (n : NodeValue). n.mark) c.self.view_is;
      done = IfOk-from_err c.from_residual.result _ c.from_residual.ensures.0;
      part = subst (λ (xs : List Change). AfterPart xs told
          (g.D.Store.told c.apply_log.new.store)) (sym same) c.apply_log.ensures.changes.part;
    }

pub returns-clause-applies : goal.returns-clause-applies
returns-clause-applies g c =
    let n = c.self.inside in
    let told = g.D.Store.told c.args.store.now in
    let same = changes_at n.me n.mark n.horizon n.served n.duty n.state c.args.self.now c.args.most
    c.self.view_is (sym c.stores.ensures ∙ c.if-not-stores.false) c.self.invariant.1 in record {
      me = ap (λ (n : NodeValue). n.me) c.self.view_is;
      mark = ap (λ (n : NodeValue). n.mark) c.self.view_is;
      done = c.in_ok-apply_log.ensures.changes.done
          ∙ ap (λ (xs : List Change). after_changes xs told) (sym same);
      part = subst (λ (xs : List Change). AfterPart xs told
          (g.D.Store.told c.apply_log.new.store)) (sym same) c.apply_log.ensures.changes.part;
    }

pub returns-in_err-apply_log-clause-runs : goal.returns-in_err-apply_log-clause-runs
returns-in_err-apply_log-clause-runs g c = IfOk-from_err c.from_residual.result _
    c.from_residual.ensures.0

pub returns-in_err-apply_log-clause-faults : goal.returns-in_err-apply_log-clause-faults
returns-in_err-apply_log-clause-faults g c = once_stored c.from_residual.result
    c.in_err-apply_log.field-0.0 c.apply_log.result _ _ c.from_residual.ensures.1
    c.in_err-apply_log.was c.apply_log.ensures.faults.rose c.apply_log.ensures.faults.count

pub returns-clause-runs : goal.returns-clause-runs
returns-clause-runs g c =
    let n = c.self.inside in
    let log = log_in n.state in record {
      up = alive_with n.state c.apply_log.new.state (applied_to log (applied_by c.args.most log))
          (cached_in c.apply_log.new.state) (stores_active n.me n.mark n.horizon n.served n.duty
          n.state c.args.self.now c.self.view_is (sym c.stores.ensures ∙ c.if-not-stores.false))
          c.in_ok-apply_log.ensures.log;
      cached = c.apply_log.ensures.cached;
    }

pub returns-clause-faults : goal.returns-clause-faults
returns-clause-faults g c = once_done _ _ _ c.apply_log.ensures.faults.count
