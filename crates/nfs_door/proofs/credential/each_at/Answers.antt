use Rattle.std.proofs.Common.{◌≡◌, ◌<◌, ◌+◌, ◌-◌, arith, sym, ◌∙◌}
use Rattle.harp_base.proofs.ListLaws.{many_faults, many_more, handed_on}
use Rattle.nfs_door.proofs.GroupLaws.{fails_so}
use Rattle.nfs_door.proofs.credential.each_at.Goals as goal

pub returns-in_err-word-clause-step : goal.returns-in_err-word-clause-step
returns-in_err-word-clause-step c =
    let h = c.from_residual.ensures in
    let left : 0 < c.args.count - c.loop.counter = omega arith in
    handed_on _ c.from_residual.result c.in_err-word.field-0.0 _ h.0 h.1
    (many_faults _ _ _ _ _ _ _ c.loop.invariant.step left
    (fails_so _ _ (sym c.in_err-word.ensures.step)))

pub loop-preserved : goal.loop-preserved
loop-preserved c =
    let items = c.in_ok-push.ensures.items in
    let left : 0 < c.args.count - c.loop.counter = omega arith in
    let one : c.args.count - c.loop.counter - 1 ≡ c.args.count - (c.loop.counter + 1) =
    omega arith in
    let more = many_more _ _ c.loop.words.items _ _ _ _ left (sym c.in_ok-word.ensures.step) in
    record {
      within = omega (arith, c.in_ok-word.ensures.within);
      step = c.loop.invariant.step ∙ rw (items, ← one) more;
    }
