use Rattle.std.proofs.Common.{arith}
use Rattle.harp_cells.specs.CellBytes.{change_bytes}
use Rattle.event_record.proofs.Sizes.{many_more, many_past}
use Rattle.event_record.proofs.size.changes_size.Goals as goal

pub loop-change-preserved : goal.loop-change-preserved
loop-change-preserved c =
    let l = c.loop-change in
    let one = c.change_size-size.ensures in
    record {
      value = omega (
        arith,
        l.invariant.value,
        one.value,
        many_more change_bytes c.args.changes.now
            l.change-index c.change-item.result c.loop-change-test.true c.change-item.is,
      );
      bound = omega (arith, l.invariant.bound, one.bound);
    }

pub returns-clause-value : goal.returns-clause-value
returns-clause-value c =
    let l = c.loop-change in
    omega (
      arith,
      l.invariant.value,
      many_past change_bytes c.args.changes.now l.change-index
          c.loop-change-test.false,
    )
