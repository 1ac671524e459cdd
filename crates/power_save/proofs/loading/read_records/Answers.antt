use Rattle.std.proofs.Common.{rules, ◌≡◌, ℕ, ◌+◌, length, arith, subst, ap, ◌∙◌}
use Rattle.harp_store.specs.Disk.{cells_told}
use Rattle.power_save.specs.Saved.{IsSavedAs}
use Rattle.power_save.proofs.Records.{numbered_by, pushed}
use Rattle.power_save.proofs.loading.read_records.Goals as goal

pub returns-in_err-record-clause-lacks : goal.returns-in_err-record-clause-lacks
returns-in_err-record-clause-lacks g c = λ cells told is.
    let long = c.loop-index.invariant.long in
    let less = c.loop-index-test.true in (
      c.loop-index.index + 1,
      omega (arith, long),
      omega (arith, less),
      c.in_err-record.ensures.none cells
          (ap cells_told c.loop-index.invariant.kept ∙ told) (search rules),
    )

pub loop-index-preserved : goal.loop-index-preserved
loop-index-preserved g c =
    let long = c.loop-index.invariant.long in
    let less = c.loop-index-test.true in
    let items = c.in_ok-push.ensures.items in
    let before = c.loop-index.invariant.count in
    let after = c.in_ok-record.ensures.count in
    let its = c.in_ok-record.ensures.index in
    let at : c.loop-index.index + 1
    ≡ c.args.base + 1 + length c.loop-index.records.items = omega (arith, long) in
    let more : length c.push.new.self.items
    ≡ length c.loop-index.records.items + 1 = search rules in
    record {
      to = omega (arith, less);
      long = omega (arith, long, more);
      order = numbered_by c.args.base c.loop-index.records.items c.push.new.self.items
          c.in_ok-record.record items c.loop-index.invariant.order (omega (arith, its, long));
      held = λ cells told. pushed (λ k r. IsSavedAs c.args.ring cells
          (c.args.base + 1 + k) r) c.loop-index.records.items c.push.new.self.items
          c.in_ok-record.record items
          (c.loop-index.invariant.held cells told)
          (subst (λ (n : ℕ). IsSavedAs c.args.ring cells n c.in_ok-record.record) at
          (c.in_ok-record.ensures.item cells (ap cells_told c.loop-index.invariant.kept ∙ told)));
      kept = c.in_ok-record.ensures.kept ∙ c.loop-index.invariant.kept;
      count = omega (arith, before, after);
    }
