use Rattle.std.proofs.Common.{refl, arith}
use Rattle.applier.specs.Applied.{after_changes, AfterPart}
use Rattle.applier.proofs.Parts.{item_made, item_part, on_err}
use Rattle.applier.proofs.make_changes.Goals as goal

pub loop-change-init : goal.loop-change-init
unfolding after_changes
loop-change-init g c = record { told = refl; count = omega arith }

pub loop-change-preserved : goal.loop-change-preserved
loop-change-preserved g c =
    let before = c.loop-change.invariant.count in
    let after = c.make_change.ensures.count in
    record {
      told = item_made c.args.changes.now c.loop-change.change-index c.change-item.result
          (g.D.Store.told c.args.store.now) (g.D.Store.told c.loop-change.store)
          (g.D.Store.told c.make_change.new.store) c.loop-change-test.true c.change-item.is
          c.loop-change.invariant.told c.in_ok-make_change.ensures.done;
      count = omega (arith, before, after);
    }

pub returns-in_err-make_change-clause-part : goal.returns-in_err-make_change-clause-part
returns-in_err-make_change-clause-part g c =
    on_err c.from_residual.result (AfterPart c.args.changes.now (g.D.Store.told c.args.store.now)
    (g.D.Store.told c.make_change.new.store))
    (item_part c.args.changes.now c.loop-change.change-index c.change-item.result
    (g.D.Store.told c.args.store.now) (g.D.Store.told c.loop-change.store)
    (g.D.Store.told c.make_change.new.store) c.loop-change-test.true c.change-item.is
    c.loop-change.invariant.told c.in_err-make_change.ensures.part)
