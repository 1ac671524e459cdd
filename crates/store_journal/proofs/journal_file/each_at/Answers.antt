use Rattle.std.proofs.Common.{◌≡◌, ◌<◌, ◌+◌, ◌-◌, arith, ◌∙◌}
use Rattle.harp_base.proofs.ListLaws.{many_faults, many_more, handed_on}
use Rattle.store_journal.proofs.journal_file.each_at.Goals as goal

pub returns-in_err-change-clause-step : goal.returns-in_err-change-clause-step
returns-in_err-change-clause-step c =
    let h = c.from_residual.ensures in
    let left : 0 < c.args.count - c.loop.counter = omega arith in
    handed_on _ c.from_residual.result c.in_err-change.field-0.0 _ h.0 h.1
    (many_faults _ _ _ _ _ _ _ c.loop.invariant.step left c.in_err-change.ensures.step)

pub loop-preserved : goal.loop-preserved
loop-preserved c =
    let items = c.in_ok-push.ensures.items in
    let left : 0 < c.args.count - c.loop.counter = omega arith in
    let one : c.args.count - c.loop.counter - 1 ≡ c.args.count - (c.loop.counter + 1) =
    omega arith in
    let more = many_more _ _ c.loop.changes.items _ _ _ _ left c.in_ok-change.ensures.step in
    record {
      within = omega (arith, c.in_ok-change.ensures.within);
      step = c.loop.invariant.step ∙ rw (items, ← one) more;
    }
