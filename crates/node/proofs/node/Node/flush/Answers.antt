use Rattle.std.proofs.Common.{Some, ap, inl, inr, le_refl, refl, subst, sym, ℕ, ◌∙◌, ◌≡◌}
use Rattle.applier.specs.Applied.{FlushesInPart, flushed, lower}
use Rattle.applier.specs.FuzzyDisk.{IsFuzzyByMark, IsFuzzyDisk}
use Rattle.group_rules.proofs.Tests.{if_is, if_not}
use Rattle.harp_store.specs.Disk.{AtEachMoment, cells_told}
use Rattle.harp_store.specs.Mark.{MarkFields}
use Rattle.node.proofs.Asks.{cached_at}
use Rattle.node.proofs.Stores.{alive_with, ap_is, flushes_stores, lower_is, lowered_fits, stores_active}
use Rattle.node.specs.Node.{NodeValue}
use Rattle.node.specs.State.{cached_in}
use Rattle.node.specs.Stored.{flushes, log_in}
use Rattle.volatile_log.specs.Log.{lowered_to}
use Rattle.node.proofs.Stocked.{logged_stock}
use Rattle.node.specs.Stock.{stock, stock_in}
use Rattle.std.proofs.lemmas.Result.{IfOk-from_err}
use Rattle.node.proofs.Faults.{once_done, once_stored}
use Rattle.node.proofs.node.Node.flush.Goals as goal

pub flush_log-requires-clause-active : goal.flush_log-requires-clause-active
flush_log-requires-clause-active g c =
    let n = c.self.inside in
    stores_active n.me n.mark n.horizon n.served n.duty n.state c.args.self.now c.self.view_is
    (flushes_stores c.args.self.now (sym c.flushes.ensures ∙ c.if-not-flushes.false))

pub flush_log-requires-clause-cached : goal.flush_log-requires-clause-cached
flush_log-requires-clause-cached g c =
    let n = c.self.inside in
    cached_at n.me n.mark n.horizon n.served n.duty n.state n.state c.args.self.now
    (cells_told (g.D.Store.told c.args.store.now)) c.self.view_is refl c.requires.cached

pub returns-in_err-flush_log-clause-fuzzy : goal.returns-in_err-flush_log-clause-fuzzy
returns-in_err-flush_log-clause-fuzzy g c history m h st =
    let n = c.self.inside in
    let now = c.args.self.now in
    subst (λ (x : NodeValue). g.D.Store.told c.args.store.now ≡ Some h
    → h.now.mark ≡ Some x.mark → IsFuzzyDisk history x.mark.lb x.plain.ap m h.now
    → AtEachMoment (IsFuzzyByMark history x.plain.ap m) (g.D.Store.told c.args.store.now)
    (g.D.Store.told c.flush_log.new.store)) c.self.view_is
    (subst (λ (k : ℕ). g.D.Store.told c.args.store.now ≡ Some h → h.now.mark ≡ Some n.mark
    → IsFuzzyDisk history n.mark.lb k m h.now
    → AtEachMoment (IsFuzzyByMark history k m) (g.D.Store.told c.args.store.now)
    (g.D.Store.told c.flush_log.new.store))
    (sym (ap_is n.me n.mark n.horizon n.served n.duty n.state now c.self.view_is
    (flushes_stores now st) c.self.invariant.1)) (c.flush_log.ensures.fuzzy history m h))

pub invariant_of-self-2 : goal.invariant_of-self-2
invariant_of-self-2 g c =
    let n = c.self.inside in
    let log = log_in n.state in (
      c.self.invariant.0,
      lowered_fits n.me n.mark c.flush_log.new.mark n.horizon n.served n.duty n.state
          c.flush_log.new.state c.args.self.now (lowered_to log log.ap)
          (cached_in c.flush_log.new.state) c.self.view_is
          (flushes_stores c.args.self.now (sym c.flushes.ensures ∙ c.if-not-flushes.false))
          c.self.invariant.1 c.in_ok-flush_log.ensures.lowers.log
          c.in_ok-flush_log.ensures.writes.mark,
    )

pub returns-clause-fuzzy : goal.returns-clause-fuzzy
returns-clause-fuzzy g c history m h st =
    let n = c.self.inside in
    let now = c.args.self.now in
    subst (λ (x : NodeValue). g.D.Store.told c.args.store.now ≡ Some h
    → h.now.mark ≡ Some x.mark → IsFuzzyDisk history x.mark.lb x.plain.ap m h.now
    → AtEachMoment (IsFuzzyByMark history x.plain.ap m) (g.D.Store.told c.args.store.now)
    (g.D.Store.told c.flush_log.new.store)) c.self.view_is
    (subst (λ (k : ℕ). g.D.Store.told c.args.store.now ≡ Some h → h.now.mark ≡ Some n.mark
    → IsFuzzyDisk history n.mark.lb k m h.now
    → AtEachMoment (IsFuzzyByMark history k m) (g.D.Store.told c.args.store.now)
    (g.D.Store.told c.flush_log.new.store))
    (sym (ap_is n.me n.mark n.horizon n.served n.duty n.state now c.self.view_is
    (flushes_stores now st) c.self.invariant.1)) (c.flush_log.ensures.fuzzy history m h))

pub returns-clause-stock : goal.returns-clause-stock
returns-clause-stock g c =
    let n = c.self.inside in
    let log = log_in n.state in
    ap stock_in c.in_ok-flush_log.ensures.lowers.log
    ∙ logged_stock n.state (lowered_to log log.ap)
    (cached_in c.flush_log.new.state) refl ∙ ap stock c.self.view_is

pub returns-then-not-flushes-clause-stock : goal.returns-then-not-flushes-clause-stock
returns-then-not-flushes-clause-stock g c = refl

pub returns-in_err-flush_log-clause-makes : goal.returns-in_err-flush_log-clause-makes
returns-in_err-flush_log-clause-makes g c = IfOk-from_err c.from_residual.result _
    c.from_residual.ensures.0

pub returns-in_err-flush_log-clause-stock : goal.returns-in_err-flush_log-clause-stock
returns-in_err-flush_log-clause-stock g c = IfOk-from_err c.from_residual.result _
    c.from_residual.ensures.0

pub returns-in_err-flush_log-clause-tree : goal.returns-in_err-flush_log-clause-tree
returns-in_err-flush_log-clause-tree g c = IfOk-from_err c.from_residual.result _
    c.from_residual.ensures.0

pub returns-then-not-flushes-clause-writes : goal.returns-then-not-flushes-clause-writes
returns-then-not-flushes-clause-writes g c =
    let n = c.args.self.now in
    let none = sym c.flushes.ensures ∙ c.if-not-flushes.true in record {
      me = refl;
      mark = sym (if_not (flushes n) (lower n.plain.ap n.mark) n.mark none);
      done = sym (if_not (flushes n) (flushed (lower n.plain.ap n.mark)
          (g.D.Store.told c.args.store.now)) (g.D.Store.told c.args.store.now) none);
      part = inl refl;
    }

pub returns-then-not-flushes-clause-runs : goal.returns-then-not-flushes-clause-runs
returns-then-not-flushes-clause-runs g c = record {
  up = c.requires.up;
  cached = c.requires.cached;
}

pub returns-then-not-flushes-clause-faults : goal.returns-then-not-flushes-clause-faults
returns-then-not-flushes-clause-faults g c = once_done _ _ _ (le_refl _)

pub returns-in_err-flush_log-clause-writes : goal.returns-in_err-flush_log-clause-writes
returns-in_err-flush_log-clause-writes g c =
    let n = c.self.inside in
    let told = g.D.Store.told c.args.store.now in
    let due = sym c.flushes.ensures ∙ c.if-not-flushes.false in
    let low = lower_is n.me n.mark n.horizon n.served n.duty n.state c.args.self.now
    c.self.view_is due c.self.invariant.1 in record {
      me = ap (λ (n : NodeValue). n.me) c.self.view_is;
      mark = IfOk-from_err c.from_residual.result _ c.from_residual.ensures.0;
      done = IfOk-from_err c.from_residual.result _ c.from_residual.ensures.0;
      part = inr (
        due,
        subst (λ (m : MarkFields). FlushesInPart m told
            (g.D.Store.told c.flush_log.new.store)) low c.flush_log.ensures.writes.part,
      );
    }

pub returns-in_err-flush_log-clause-runs : goal.returns-in_err-flush_log-clause-runs
returns-in_err-flush_log-clause-runs g c = IfOk-from_err c.from_residual.result _
    c.from_residual.ensures.0

pub returns-in_err-flush_log-clause-faults : goal.returns-in_err-flush_log-clause-faults
returns-in_err-flush_log-clause-faults g c = once_stored c.from_residual.result
    c.in_err-flush_log.field-0.0 c.flush_log.result _ _ c.from_residual.ensures.1
    c.in_err-flush_log.was c.flush_log.ensures.faults.rose c.flush_log.ensures.faults.count

pub returns-clause-writes : goal.returns-clause-writes
returns-clause-writes g c =
    let n = c.self.inside in
    let told = g.D.Store.told c.args.store.now in
    let due = sym c.flushes.ensures ∙ c.if-not-flushes.false in
    let low = lower_is n.me n.mark n.horizon n.served n.duty n.state c.args.self.now
    c.self.view_is due c.self.invariant.1 in
    let now = c.args.self.now in record {
      me = ap (λ (n : NodeValue). n.me) c.self.view_is;
      mark = c.in_ok-flush_log.ensures.writes.mark ∙ low
          ∙ sym (if_is (flushes now) (lower now.plain.ap now.mark) now.mark due);
      done = c.in_ok-flush_log.ensures.writes.done
          ∙ ap (λ (m : MarkFields). flushed m told) low
          ∙ sym (if_is (flushes now) (flushed (lower now.plain.ap now.mark) told) told due);
      part = inr (
        due,
        subst (λ (m : MarkFields). FlushesInPart m told
            (g.D.Store.told c.flush_log.new.store)) low c.flush_log.ensures.writes.part,
      );
    }

pub returns-clause-runs : goal.returns-clause-runs
returns-clause-runs g c =
    let n = c.self.inside in
    let log = log_in n.state in record {
      up = alive_with n.state c.flush_log.new.state (lowered_to log log.ap)
          (cached_in c.flush_log.new.state) (stores_active n.me n.mark n.horizon n.served n.duty
          n.state c.args.self.now c.self.view_is (flushes_stores c.args.self.now
          (sym c.flushes.ensures ∙ c.if-not-flushes.false))) c.in_ok-flush_log.ensures.lowers.log;
      cached = c.flush_log.ensures.cached;
    }

pub returns-clause-faults : goal.returns-clause-faults
returns-clause-faults g c = once_done _ _ _ c.flush_log.ensures.faults.count
