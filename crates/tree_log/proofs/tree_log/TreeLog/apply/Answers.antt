use Rattle.std.proofs.Common.{rules, ◌≡◌, ◌+◌, ◌≤◌, ℕ, min, sym, ap, ◌∙◌, subst}
use Rattle.std.proofs.lemmas.Result.{IfOk-from_err}
use Rattle.applier.specs.Applied.{AfterPart, after_changes, changes_between}
use Rattle.applier.specs.Fuzzy.{IsFuzzyTo, StaysFuzzy}
use Rattle.cell_cache.specs.Entries.{AreOf}
use Rattle.applier.specs.FuzzyDisk.{AreRecordsOf, IsFuzzyDisk}
use Rattle.harp_store.specs.Disk.{Now, cells_told}
use Rattle.harp_store.specs.declared.store.StoreFault.TheVariants.{Failed}
use Rattle.volatile_log.specs.Log.{LogValue, applied_to}
use Rattle.tree_log.specs.Applying.{applied_by, changes_by}
use Rattle.tree_log.specs.Reading.{HoldsTree}
use Rattle.tree_log.specs.TreeLog.{TreeLogValue, changes_in}
use Rattle.tree_log.proofs.Faults.{counts_as, counts_none}
use Rattle.tree_log.proofs.Forgetting.{applied_are}
use Rattle.tree_log.proofs.Holding.{applied_holds, part_holds}
use Rattle.tree_log.proofs.tree_log.TreeLog.apply.Goals as goal

pub returns-in_err-reached-clause-cached : goal.returns-in_err-reached-clause-cached
returns-in_err-reached-clause-cached g c =
    let log = c.self.inside.log in
    let to : c.min-to.result ≡ min (c.ap-ap.result + c.args.most) c.cp-cp.result = search rules in
    applied_are log.base (changes_in log.records) c.ap-ap.result
    (min (c.ap-ap.result + c.args.most) c.cp-cp.result) c.min-to.result
    (g.D.Store.told c.args.store.now) (g.D.Store.told c.apply_some.new.store)
    c.self.inside.cache.entries c.forget_records.new.cache.entries to
    c.apply_some.ensures.part c.forget_records.ensures
    (subst (λ (t : TreeLogValue). AreOf (cells_told (g.D.Store.told c.args.store.now)) t.cached)
    (sym c.self.view_is) c.requires)

pub returns-clause-cached : goal.returns-clause-cached
returns-clause-cached g c =
    let log = c.self.inside.log in
    let to : c.min-to.result ≡ min (c.ap-ap.result + c.args.most) c.cp-cp.result = search rules in
    applied_are log.base (changes_in log.records) c.ap-ap.result
    (min (c.ap-ap.result + c.args.most) c.cp-cp.result) c.min-to.result
    (g.D.Store.told c.args.store.now) (g.D.Store.told c.apply_some.new.store)
    c.self.inside.cache.entries c.forget_records.new.cache.entries to
    c.apply_some.ensures.part c.forget_records.ensures
    (subst (λ (t : TreeLogValue). AreOf (cells_told (g.D.Store.told c.args.store.now)) t.cached)
    (sym c.self.view_is) c.requires)

pub returns-in_err-reached-clause-fuzzy : goal.returns-in_err-reached-clause-fuzzy
returns-in_err-reached-clause-fuzzy g c =
    let a : c.ap-ap.result ≡ c.args.self.now.log.ap =
    c.ap-ap.ensures.value ∙ ap (λ (t : TreeLogValue). t.log.ap) c.self.view_is in
    let cp : c.cp-cp.result ≡ c.args.self.now.log.cp =
    c.cp-cp.ensures.value ∙ ap (λ (t : TreeLogValue). t.log.cp) c.self.view_is in
    let new = g.D.Store.told c.apply_some.new.store in record {
      fuzzy = λ history lb m h told once are fuzzy.
          let made : StaysFuzzy history lb c.ap-ap.result
          (min (c.ap-ap.result + c.args.most) c.cp-cp.result) m h new =
          c.apply_some.ensures.fuzzy history lb m h told once
          (subst (λ (t : TreeLogValue). AreRecordsOf history t.log.base (changes_in t.log.records))
          (sym c.self.view_is) are)
          (subst (λ (n : ℕ). IsFuzzyDisk history lb n m h.now) (sym a) fuzzy) in
          subst (λ (n : ℕ). StaysFuzzy history lb n
          (min (n + c.args.most) c.args.self.now.log.cp) m h new) a
          (subst (λ (n : ℕ). StaysFuzzy history lb c.ap-ap.result
          (min (c.ap-ap.result + c.args.most) n) m h new) cp made);
      reached = λ history lb m h told once are fuzzy. IfOk-from_err c.from_residual.result _
          c.from_residual.ensures.0;
    }

pub returns-clause-fuzzy : goal.returns-clause-fuzzy
returns-clause-fuzzy g c =
    let a : c.ap-ap.result ≡ c.args.self.now.log.ap =
    c.ap-ap.ensures.value ∙ ap (λ (t : TreeLogValue). t.log.ap) c.self.view_is in
    let cp : c.cp-cp.result ≡ c.args.self.now.log.cp =
    c.cp-cp.ensures.value ∙ ap (λ (t : TreeLogValue). t.log.cp) c.self.view_is in
    let new = g.D.Store.told c.apply_some.new.store in record {
      fuzzy = λ history lb m h told once are fuzzy.
          let made : StaysFuzzy history lb c.ap-ap.result
          (min (c.ap-ap.result + c.args.most) c.cp-cp.result) m h new =
          c.apply_some.ensures.fuzzy history lb m h told once
          (subst (λ (t : TreeLogValue). AreRecordsOf history t.log.base (changes_in t.log.records))
          (sym c.self.view_is) are)
          (subst (λ (n : ℕ). IsFuzzyDisk history lb n m h.now) (sym a) fuzzy) in
          subst (λ (n : ℕ). StaysFuzzy history lb n
          (min (n + c.args.most) c.args.self.now.log.cp) m h new) a
          (subst (λ (n : ℕ). StaysFuzzy history lb c.ap-ap.result
          (min (c.ap-ap.result + c.args.most) n) m h new) cp made);
      reached = λ history lb m h told once are fuzzy.
          let made : Now (IsFuzzyTo history lb
          (min (c.ap-ap.result + c.args.most) c.cp-cp.result) m) new =
          c.in_ok-reached.ensures.reached history lb m h told once
          (subst (λ (t : TreeLogValue). AreRecordsOf history t.log.base (changes_in t.log.records))
          (sym c.self.view_is) are)
          (subst (λ (n : ℕ). IsFuzzyDisk history lb n m h.now) (sym a) fuzzy) in
          subst (λ (n : ℕ). Now (IsFuzzyTo history lb
          (min (n + c.args.most) c.args.self.now.log.cp) m) new) a
          (subst (λ (n : ℕ). Now (IsFuzzyTo history lb
          (min (c.ap-ap.result + c.args.most) n) m) new) cp made);
    }

pub returns-in_err-reached-clause-changes : goal.returns-in_err-reached-clause-changes
returns-in_err-reached-clause-changes g c =
    let log = c.self.inside.log in
    let old = g.D.Store.told c.args.store.now in
    let new = g.D.Store.told c.apply_some.new.store in
    let a : c.ap-ap.result ≡ log.ap = c.ap-ap.ensures.value in
    let cp : c.cp-cp.result ≡ log.cp = c.cp-cp.ensures.value in
    let part : AfterPart (changes_by c.args.most log) old new =
    subst (λ (n : ℕ). AfterPart (changes_between log.base (changes_in log.records) n
    (min (n + c.args.most) log.cp)) old new) a
    (subst (λ (n : ℕ). AfterPart (changes_between log.base (changes_in log.records) c.ap-ap.result
    (min (c.ap-ap.result + c.args.most) n)) old new) cp c.apply_some.ensures.part) in
    record {
      done = IfOk-from_err c.from_residual.result _ c.from_residual.ensures.0;
      part = subst (λ (t : TreeLogValue). AfterPart (changes_by c.args.most t.log) old new)
          c.self.view_is part;
    }

pub returns-clause-changes : goal.returns-clause-changes
returns-clause-changes g c =
    let log = c.self.inside.log in
    let old = g.D.Store.told c.args.store.now in
    let new = g.D.Store.told c.apply_some.new.store in
    let a : c.ap-ap.result ≡ log.ap = c.ap-ap.ensures.value in
    let cp : c.cp-cp.result ≡ log.cp = c.cp-cp.ensures.value in
    let part : AfterPart (changes_by c.args.most log) old new =
    subst (λ (n : ℕ). AfterPart (changes_between log.base (changes_in log.records) n
    (min (n + c.args.most) log.cp)) old new) a
    (subst (λ (n : ℕ). AfterPart (changes_between log.base (changes_in log.records) c.ap-ap.result
    (min (c.ap-ap.result + c.args.most) n)) old new) cp c.apply_some.ensures.part) in
    let done : new ≡ after_changes (changes_by c.args.most log) old =
    c.in_ok-reached.ensures.done
    ∙ ap (λ (n : ℕ). after_changes (changes_between log.base (changes_in log.records) n
    (min (n + c.args.most) c.cp-cp.result)) old) a
    ∙ ap (λ (n : ℕ). after_changes (changes_between log.base (changes_in log.records) log.ap
    (min (log.ap + c.args.most) n)) old) cp in
    record {
      done = subst (λ (t : TreeLogValue). new ≡ after_changes (changes_by c.args.most t.log) old)
          c.self.view_is done;
      part = subst (λ (t : TreeLogValue). AfterPart (changes_by c.args.most t.log) old new)
          c.self.view_is part;
    }

pub returns-in_err-reached-clause-tree : goal.returns-in_err-reached-clause-tree
returns-in_err-reached-clause-tree g c list upto le h =
    let log = c.self.inside.log in
    let old = g.D.Store.told c.args.store.now in
    let new = g.D.Store.told c.apply_some.new.store in
    let a : c.ap-ap.result ≡ log.ap = c.ap-ap.ensures.value in
    let cp : c.cp-cp.result ≡ log.cp = c.cp-cp.ensures.value in
    let part : AfterPart (changes_by c.args.most log) old new =
    subst (λ (n : ℕ). AfterPart (changes_between log.base (changes_in log.records) n
    (min (n + c.args.most) log.cp)) old new) a
    (subst (λ (n : ℕ). AfterPart (changes_between log.base (changes_in log.records) c.ap-ap.result
    (min (c.ap-ap.result + c.args.most) n)) old new) cp c.apply_some.ensures.part) in
    let low : log.cp ≤ upto = subst (λ (t : TreeLogValue). t.log.cp ≤ upto) (sym c.self.view_is) le in
    part_holds list upto c.args.most log old new c.ap-ap.ensures.order low
    (subst (λ (t : TreeLogValue). HoldsTree list upto t.log old) (sym c.self.view_is) h) part

pub returns-clause-tree : goal.returns-clause-tree
returns-clause-tree g c list upto le h =
    let log = c.self.inside.log in
    let old = g.D.Store.told c.args.store.now in
    let new = g.D.Store.told c.apply_some.new.store in
    let a : c.ap-ap.result ≡ log.ap = c.ap-ap.ensures.value in
    let cp : c.cp-cp.result ≡ log.cp = c.cp-cp.ensures.value in
    let done : new ≡ after_changes (changes_by c.args.most log) old =
    c.in_ok-reached.ensures.done
    ∙ ap (λ (n : ℕ). after_changes (changes_between log.base (changes_in log.records) n
    (min (n + c.args.most) c.cp-cp.result)) old) a
    ∙ ap (λ (n : ℕ). after_changes (changes_between log.base (changes_in log.records) log.ap
    (min (log.ap + c.args.most) n)) old) cp in
    let reached : c.in_ok-reached.reached ≡ applied_by c.args.most log =
    c.in_ok-reached.ensures.index ∙ ap (λ (n : ℕ). min (n + c.args.most) c.cp-cp.result) a
    ∙ ap (λ (n : ℕ). min (log.ap + c.args.most) n) cp in
    let low : log.cp ≤ upto = subst (λ (t : TreeLogValue). t.log.cp ≤ upto) (sym c.self.view_is) le in
    subst (λ (k : LogValue). HoldsTree list upto k new)
    (sym (c.applied_to.ensures ∙ ap (applied_to log) reached))
    (applied_holds list upto c.args.most log old new c.ap-ap.ensures.order low
    (subst (λ (t : TreeLogValue). HoldsTree list upto t.log old) (sym c.self.view_is) h) done)

pub returns-in_err-reached-clause-faults : goal.returns-in_err-reached-clause-faults
returns-in_err-reached-clause-faults g c = counts_as c.from_residual.result
    c.in_err-reached.field-0.0 Failed c.apply_some.result _ _ c.from_residual.ensures.1
    c.in_err-reached.was (record {
      rose = c.apply_some.ensures.rose;
      count = c.apply_some.ensures.count;
    })

pub returns-clause-faults : goal.returns-clause-faults
returns-clause-faults g c = counts_none _ _ _ _ c.apply_some.ensures.count
