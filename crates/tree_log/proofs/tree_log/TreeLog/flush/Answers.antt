use Rattle.std.proofs.Common.{◌≡◌, ℕ, refl, sym, ap, ◌∙◌, subst}
use Rattle.std.proofs.lemmas.Result.{IfOk-from_err}
use Rattle.applier.specs.Applied.{FlushesInPart, flushed, lower}
use Rattle.cell_cache.specs.Entries.{AreOf}
use Rattle.harp_store.specs.Disk.{cells_told}
use Rattle.harp_store.specs.declared.store.StoreFault.TheVariants.{Failed}
use Rattle.volatile_log.specs.Log.{lowered_to}
use Rattle.tree_log.specs.TreeLog.{TreeLogValue}
use Rattle.tree_log.proofs.Faults.{counts_as, counts_none, err_anyhow}
use Rattle.tree_log.proofs.tree_log.TreeLog.flush.Goals as goal

pub returns-in_err-flush-clause-cached : goal.returns-in_err-flush-clause-cached
returns-in_err-flush-clause-cached g c cells is =
    c.requires cells (sym c.flush.ensures.cells ∙ is)

pub returns-clause-cached : goal.returns-clause-cached
returns-clause-cached g c cells is =
    subst (λ (t : TreeLogValue). AreOf (cells_told (g.D.Store.told c.args.store.now)) t.cached)
    (sym c.self.view_is) c.requires cells (sym c.flush.ensures.cells ∙ is)

-- ---- the log

pub returns-in_err-flush-clause-lowers : goal.returns-in_err-flush-clause-lowers
returns-in_err-flush-clause-lowers g c = record {
  log = IfOk-from_err c.from_residual.result _ c.from_residual.ensures.0;
  still = err_anyhow c.from_residual.result refl;
}

pub returns-clause-lowers : goal.returns-clause-lowers
returns-clause-lowers g c = record {
  log = c.lower_to.ensures ∙ ap (λ (n : ℕ). lowered_to c.self.inside.log n) c.ap-ap.ensures.value
      ∙ ap (λ (t : TreeLogValue). lowered_to t.log t.log.ap) c.self.view_is;
  still = tt;
}

-- ---- the disk and the mark

pub returns-in_err-flush-clause-writes : goal.returns-in_err-flush-clause-writes
returns-in_err-flush-clause-writes g c =
    let old = g.D.Store.told c.args.store.now in
    let new = g.D.Store.told c.flush.new.store in
    let a : c.ap-ap.result ≡ c.args.self.now.log.ap =
    c.ap-ap.ensures.value ∙ ap (λ (t : TreeLogValue). t.log.ap) c.self.view_is in record {
      done = IfOk-from_err c.from_residual.result _ c.from_residual.ensures.0;
      part = subst (λ (n : ℕ). FlushesInPart (lower n c.args.mark.now) old new) a
          c.flush.ensures.part;
      mark = IfOk-from_err c.from_residual.result _ c.from_residual.ensures.0;
      kept = err_anyhow c.from_residual.result c.in_err-flush.ensures.kept;
    }

pub returns-clause-writes : goal.returns-clause-writes
returns-clause-writes g c =
    let old = g.D.Store.told c.args.store.now in
    let new = g.D.Store.told c.flush.new.store in
    let a : c.ap-ap.result ≡ c.args.self.now.log.ap =
    c.ap-ap.ensures.value ∙ ap (λ (t : TreeLogValue). t.log.ap) c.self.view_is in record {
      done = subst (λ (n : ℕ). new ≡ flushed (lower n c.args.mark.now) old) a
          c.in_ok-flush.ensures.done;
      part = subst (λ (n : ℕ). FlushesInPart (lower n c.args.mark.now) old new) a
          c.flush.ensures.part;
      mark = subst (λ (n : ℕ). c.flush.new.mark ≡ lower n c.args.mark.now) a
          c.in_ok-flush.ensures.mark;
      kept = tt;
    }

pub returns-in_err-flush-clause-at_once : goal.returns-in_err-flush-clause-at_once
returns-in_err-flush-clause-at_once g c = record {
  cells = c.flush.ensures.cells;
  moments = c.flush.ensures.moments;
}

pub returns-clause-at_once : goal.returns-clause-at_once
returns-clause-at_once g c = record {
  cells = c.flush.ensures.cells;
  moments = c.flush.ensures.moments;
}

-- ---- the store's faults

pub returns-in_err-flush-clause-faults : goal.returns-in_err-flush-clause-faults
returns-in_err-flush-clause-faults g c = counts_as c.from_residual.result
    c.in_err-flush.field-0.0 Failed c.flush.result _ _ c.from_residual.ensures.1
    c.in_err-flush.was (record {
      rose = c.flush.ensures.rose;
      count = c.flush.ensures.count;
    })

pub returns-clause-faults : goal.returns-clause-faults
returns-clause-faults g c = counts_none _ _ _ _ c.flush.ensures.count
