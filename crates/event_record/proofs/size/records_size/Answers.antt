use Rattle.std.proofs.Common.{arith}
use Rattle.event_record.specs.Bytes.{record_bytes}
use Rattle.event_record.proofs.Sizes.{many_more, many_past}
use Rattle.event_record.proofs.size.records_size.Goals as goal

pub loop-record-preserved : goal.loop-record-preserved
loop-record-preserved c =
    let l = c.loop-record in
    let one = c.record_size-size.ensures in
    record {
      value = omega (
        arith,
        l.invariant.value,
        one.value,
        many_more record_bytes c.args.records.now
            l.record-index c.record-item.result c.loop-record-test.true c.record-item.is,
      );
      bound = omega (arith, l.invariant.bound, one.bound);
    }

pub returns-clause-value : goal.returns-clause-value
returns-clause-value c =
    let l = c.loop-record in
    omega (
      arith,
      l.invariant.value,
      many_past record_bytes c.args.records.now l.record-index
          c.loop-record-test.false,
    )
