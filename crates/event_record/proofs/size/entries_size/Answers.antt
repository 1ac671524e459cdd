use Rattle.std.proofs.Common.{arith}
use Rattle.harp_base.specs.Replies.{entry_bytes}
use Rattle.event_record.proofs.Sizes.{many_more, many_past}
use Rattle.event_record.proofs.size.entries_size.Goals as goal

pub loop-entry-preserved : goal.loop-entry-preserved
loop-entry-preserved c =
    let l = c.loop-entry in
    let one = c.entry_size-size.ensures in
    record {
      value = omega (
        arith,
        l.invariant.value,
        one.value,
        many_more entry_bytes c.args.entries.now
            l.entry-index c.entry-item.result c.loop-entry-test.true c.entry-item.is,
      );
      bound = omega (arith, l.invariant.bound, one.bound);
    }

pub returns-clause-value : goal.returns-clause-value
returns-clause-value c =
    let l = c.loop-entry in
    omega (
      arith,
      l.invariant.value,
      many_past entry_bytes c.args.entries.now l.entry-index
          c.loop-entry-test.false,
    )
