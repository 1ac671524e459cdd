use Rattle.std.proofs.Common.{◌≡◌, ℕ, arith, subst}
use Rattle.std.proofs.lemmas.List.{length-map}
use Rattle.applier.specs.Applied.{changes_between}
use Rattle.event_record.specs.declared.record.RecordFields.{RecordFields as Record}
use Rattle.tree_log.specs.Applying.{AreLeftBy}
use Rattle.tree_log.specs.TreeLog.{changes_in}
use Rattle.tree_log.proofs.Forgetting.{none_between, record_left}
use Rattle.tree_log.proofs.applying.forget_records.Goals as goal

pub loop-at-init : goal.loop-at-init
loop-at-init c = record {
  from = omega arith;
  to = c.requires.order;
  left = none_between c.args.log.now.base (changes_in c.args.log.now.records) c.args.from
      c.args.cache.now.entries;
}

pub loop-at-preserved : goal.loop-at-preserved
loop-at-preserved c =
    let from = c.loop-at.invariant.from in
    let less = c.loop-at-test.true in
    let last = c.requires.last in
    let count = length-map c.args.log.now.records (λ (r : Record). r.changes) in
    record {
      from = omega (arith, from);
      to = omega (arith, less);
      left = record_left c.args.log.now.base (changes_in c.args.log.now.records) c.args.from
          c.loop-at.at c.changes.result.now c.args.cache.now.entries c.loop-at.cache.entries
          c.forget_changes.new.cache.entries c.requires.first from
          (omega (arith, less, last, count)) c.changes.ensures c.loop-at.invariant.left
          c.forget_changes.ensures;
    }

pub returns : goal.returns
returns c =
    let below = c.loop-at.invariant.to in
    let done = c.loop-at-test.false in
    let end : c.loop-at.at ≡ c.args.to = omega (arith, below, done) in
    subst (λ (n : ℕ). AreLeftBy (changes_between c.args.log.now.base
    (changes_in c.args.log.now.records) c.args.from n) c.args.cache.now.entries
    c.loop-at.cache.entries) end c.loop-at.invariant.left
