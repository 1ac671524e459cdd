use Rattle.std.proofs.Common.{◌≡◌, ℕ, arith, ap, ◌∙◌}
use Rattle.applier.specs.Applied.{after_changes, changes_between}
use Rattle.applier.proofs.Parts.{all_is_part, between_none, record_made, records_part}
use Rattle.applier.proofs.apply_records.Goals as goal

pub loop-at-init : goal.loop-at-init
loop-at-init g c = record {
  from = omega arith;
  to = c.requires.order;
  told = between_none (g.L.ChangeLog.base c.args.log.now)
      (g.L.ChangeLog.records c.args.log.now) c.args.from (g.D.Store.told c.args.store.now);
  count = omega arith;
}

pub loop-at-preserved : goal.loop-at-preserved
loop-at-preserved g c =
    let before = c.loop-at.invariant.count in
    let after = c.apply_record.ensures.count in
    let from = c.loop-at.invariant.from in
    let less = c.loop-at-test.true in
    let last = c.requires.last in
    record {
      from = omega (arith, from);
      to = omega (arith, less);
      told = record_made (g.L.ChangeLog.base c.args.log.now)
          (g.L.ChangeLog.records c.args.log.now) c.args.from c.loop-at.at
          (g.D.Store.told c.args.store.now) (g.D.Store.told c.loop-at.store)
          (g.D.Store.told c.apply_record.new.store) c.requires.first from
          (omega (arith, less, last)) c.loop-at.invariant.told c.in_ok-apply_record.ensures.done;
      count = omega (arith, before, after);
    }

pub returns-in_err-apply_record-clause-part : goal.returns-in_err-apply_record-clause-part
returns-in_err-apply_record-clause-part g c =
    let from = c.loop-at.invariant.from in
    let less = c.loop-at-test.true in
    let last = c.requires.last in
    records_part (g.L.ChangeLog.base c.args.log.now) (g.L.ChangeLog.records c.args.log.now)
    c.args.from c.loop-at.at c.args.to (g.D.Store.told c.args.store.now)
    (g.D.Store.told c.loop-at.store) (g.D.Store.told c.apply_record.new.store) c.requires.first
    from less last c.loop-at.invariant.told c.in_err-apply_record.ensures.part

pub returns-clause-part : goal.returns-clause-part
returns-clause-part g c =
    let below = c.loop-at.invariant.to in
    let done = c.loop-at-test.false in
    let end : c.loop-at.at ≡ c.args.to = omega (arith, below, done) in
    all_is_part (changes_between (g.L.ChangeLog.base c.args.log.now)
    (g.L.ChangeLog.records c.args.log.now) c.args.from c.args.to)
    (g.D.Store.told c.args.store.now) (g.D.Store.told c.loop-at.store)
    (c.loop-at.invariant.told ∙ ap (λ (n : ℕ). after_changes
    (changes_between (g.L.ChangeLog.base c.args.log.now)
    (g.L.ChangeLog.records c.args.log.now) c.args.from n) (g.D.Store.told c.args.store.now)) end)
