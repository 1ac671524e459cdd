use Rattle.std.proofs.Common.{◌≡◌, ◌+◌, ℕ, arith, rules, min, subst, ap, ◌∙◌}
use Rattle.harp_store.proofs.Runs.{crashes_of_part, moments_of_part}
use Rattle.applier.specs.Applied.{AfterPart, after_changes, changes_between}
use Rattle.applier.proofs.Fuzzy.{gets_fuzzy, stays_fuzzy}
use Rattle.applier.proofs.apply_some.Goals as goal

pub returns-in_err-apply_records-clause-moments : goal.returns-in_err-apply_records-clause-moments
returns-in_err-apply_records-clause-moments g c =
    let to : c.min-to.result ≡ min (c.args.ap + c.args.most) c.args.cp = search rules in
    let part : AfterPart (changes_between (g.L.ChangeLog.base c.args.log.now)
    (g.L.ChangeLog.records c.args.log.now) c.args.ap
    (min (c.args.ap + c.args.most) c.args.cp))
    (g.D.Store.told c.args.store.now) (g.D.Store.told c.apply_records.new.store) =
    subst (λ (n : ℕ). AfterPart (changes_between (g.L.ChangeLog.base c.args.log.now)
    (g.L.ChangeLog.records c.args.log.now) c.args.ap n) (g.D.Store.told c.args.store.now)
    (g.D.Store.told c.apply_records.new.store)) to c.apply_records.ensures.part in
    moments_of_part (changes_between (g.L.ChangeLog.base c.args.log.now)
    (g.L.ChangeLog.records c.args.log.now) c.args.ap
    (min (c.args.ap + c.args.most) c.args.cp))
    (g.D.Store.told c.args.store.now) (g.D.Store.told c.apply_records.new.store) part

pub returns-in_err-apply_records-clause-crashes : goal.returns-in_err-apply_records-clause-crashes
returns-in_err-apply_records-clause-crashes g c =
    let to : c.min-to.result ≡ min (c.args.ap + c.args.most) c.args.cp = search rules in
    let part : AfterPart (changes_between (g.L.ChangeLog.base c.args.log.now)
    (g.L.ChangeLog.records c.args.log.now) c.args.ap
    (min (c.args.ap + c.args.most) c.args.cp))
    (g.D.Store.told c.args.store.now) (g.D.Store.told c.apply_records.new.store) =
    subst (λ (n : ℕ). AfterPart (changes_between (g.L.ChangeLog.base c.args.log.now)
    (g.L.ChangeLog.records c.args.log.now) c.args.ap n) (g.D.Store.told c.args.store.now)
    (g.D.Store.told c.apply_records.new.store)) to c.apply_records.ensures.part in
    crashes_of_part (changes_between (g.L.ChangeLog.base c.args.log.now)
    (g.L.ChangeLog.records c.args.log.now) c.args.ap
    (min (c.args.ap + c.args.most) c.args.cp))
    (g.D.Store.told c.args.store.now) (g.D.Store.told c.apply_records.new.store) part

pub returns-in_err-apply_records-clause-fuzzy : goal.returns-in_err-apply_records-clause-fuzzy
returns-in_err-apply_records-clause-fuzzy g c = λ history lb m h told once are fuzzy.
    let to : c.min-to.result ≡ min (c.args.ap + c.args.most) c.args.cp = search rules in
    let part : AfterPart (changes_between (g.L.ChangeLog.base c.args.log.now)
    (g.L.ChangeLog.records c.args.log.now) c.args.ap
    (min (c.args.ap + c.args.most) c.args.cp))
    (g.D.Store.told c.args.store.now) (g.D.Store.told c.apply_records.new.store) =
    subst (λ (n : ℕ). AfterPart (changes_between (g.L.ChangeLog.base c.args.log.now)
    (g.L.ChangeLog.records c.args.log.now) c.args.ap n) (g.D.Store.told c.args.store.now)
    (g.D.Store.told c.apply_records.new.store)) to c.apply_records.ensures.part in
    let order = c.requires.order in
    let last = c.requires.last in
    stays_fuzzy history (g.L.ChangeLog.base c.args.log.now)
    (g.L.ChangeLog.records c.args.log.now) c.args.ap
    (min (c.args.ap + c.args.most) c.args.cp) lb m h once are fuzzy c.requires.first
    (omega (arith, order)) (omega (arith, last)) (g.D.Store.told c.args.store.now)
    (g.D.Store.told c.apply_records.new.store) told part

pub returns-clause-moments : goal.returns-clause-moments
returns-clause-moments g c =
    let to : c.min-to.result ≡ min (c.args.ap + c.args.most) c.args.cp = search rules in
    let part : AfterPart (changes_between (g.L.ChangeLog.base c.args.log.now)
    (g.L.ChangeLog.records c.args.log.now) c.args.ap
    (min (c.args.ap + c.args.most) c.args.cp))
    (g.D.Store.told c.args.store.now) (g.D.Store.told c.apply_records.new.store) =
    subst (λ (n : ℕ). AfterPart (changes_between (g.L.ChangeLog.base c.args.log.now)
    (g.L.ChangeLog.records c.args.log.now) c.args.ap n) (g.D.Store.told c.args.store.now)
    (g.D.Store.told c.apply_records.new.store)) to c.apply_records.ensures.part in
    moments_of_part (changes_between (g.L.ChangeLog.base c.args.log.now)
    (g.L.ChangeLog.records c.args.log.now) c.args.ap
    (min (c.args.ap + c.args.most) c.args.cp))
    (g.D.Store.told c.args.store.now) (g.D.Store.told c.apply_records.new.store) part

pub returns-clause-crashes : goal.returns-clause-crashes
returns-clause-crashes g c =
    let to : c.min-to.result ≡ min (c.args.ap + c.args.most) c.args.cp = search rules in
    let part : AfterPart (changes_between (g.L.ChangeLog.base c.args.log.now)
    (g.L.ChangeLog.records c.args.log.now) c.args.ap
    (min (c.args.ap + c.args.most) c.args.cp))
    (g.D.Store.told c.args.store.now) (g.D.Store.told c.apply_records.new.store) =
    subst (λ (n : ℕ). AfterPart (changes_between (g.L.ChangeLog.base c.args.log.now)
    (g.L.ChangeLog.records c.args.log.now) c.args.ap n) (g.D.Store.told c.args.store.now)
    (g.D.Store.told c.apply_records.new.store)) to c.apply_records.ensures.part in
    crashes_of_part (changes_between (g.L.ChangeLog.base c.args.log.now)
    (g.L.ChangeLog.records c.args.log.now) c.args.ap
    (min (c.args.ap + c.args.most) c.args.cp))
    (g.D.Store.told c.args.store.now) (g.D.Store.told c.apply_records.new.store) part

pub returns-clause-fuzzy : goal.returns-clause-fuzzy
returns-clause-fuzzy g c = λ history lb m h told once are fuzzy.
    let to : c.min-to.result ≡ min (c.args.ap + c.args.most) c.args.cp = search rules in
    let part : AfterPart (changes_between (g.L.ChangeLog.base c.args.log.now)
    (g.L.ChangeLog.records c.args.log.now) c.args.ap
    (min (c.args.ap + c.args.most) c.args.cp))
    (g.D.Store.told c.args.store.now) (g.D.Store.told c.apply_records.new.store) =
    subst (λ (n : ℕ). AfterPart (changes_between (g.L.ChangeLog.base c.args.log.now)
    (g.L.ChangeLog.records c.args.log.now) c.args.ap n) (g.D.Store.told c.args.store.now)
    (g.D.Store.told c.apply_records.new.store)) to c.apply_records.ensures.part in
    let order = c.requires.order in
    let last = c.requires.last in
    stays_fuzzy history (g.L.ChangeLog.base c.args.log.now)
    (g.L.ChangeLog.records c.args.log.now) c.args.ap
    (min (c.args.ap + c.args.most) c.args.cp) lb m h once are fuzzy c.requires.first
    (omega (arith, order)) (omega (arith, last)) (g.D.Store.told c.args.store.now)
    (g.D.Store.told c.apply_records.new.store) told part

pub returns-clause-reached : goal.returns-clause-reached
returns-clause-reached g c = λ history lb m h told once are fuzzy.
    let to : c.min-to.result ≡ min (c.args.ap + c.args.most) c.args.cp = search rules in
    let order = c.requires.order in
    let last = c.requires.last in
    gets_fuzzy history (g.L.ChangeLog.base c.args.log.now)
    (g.L.ChangeLog.records c.args.log.now) c.args.ap
    (min (c.args.ap + c.args.most) c.args.cp) lb m h once are fuzzy c.requires.first
    (omega (arith, order)) (omega (arith, last)) (g.D.Store.told c.args.store.now)
    (g.D.Store.told c.apply_records.new.store) told
    (c.in_ok-apply_records.ensures.done ∙ ap (λ (n : ℕ). after_changes
    (changes_between (g.L.ChangeLog.base c.args.log.now)
    (g.L.ChangeLog.records c.args.log.now) c.args.ap n)
    (g.D.Store.told c.args.store.now)) to)
