use Rattle.std.proofs.Common.{◌<◌, length, refl, arith}
use Rattle.event_record.specs.Bytes.{RecordFits}
use Rattle.harp_store.specs.Disk.{AfterPart, after_changes}
use Rattle.harp_store.proofs.Runs.{on_err}
use Rattle.power_save.specs.Saved.{puts_of}
use Rattle.power_save.proofs.Saves.{one_further, record_part, record_put}
use Rattle.power_save.proofs.saving.put_records.Goals as goal

pub loop-n-init : goal.loop-n-init
unfolding after_changes
loop-n-init g c =
    let high = c.top.ensures.value in
    let low = c.base.ensures.value in
    record {
      all = omega (arith, high, low);
      to = omega arith;
      told = refl;
      fits = λ k d lt. absurd (omega (arith, lt));
      count = omega arith;
    }

pub loop-n-preserved : goal.loop-n-preserved
loop-n-preserved g c =
    let before = c.loop-n.invariant.count in
    let after = c.put_record.ensures.count in
    let less = c.loop-n-test.true in
    let all = c.loop-n.invariant.all in
    let within : c.loop-n.n < length c.args.log.now.records = omega (arith, less, all) in
    record {
      all = all;
      to = omega (arith, less);
      told = record_put c.args.log.now.records c.loop-n.n c.record_behind.result.now
          (g.D.Store.told c.args.store.now) (g.D.Store.told c.loop-n.store)
          (g.D.Store.told c.put_record.new.store) within c.record_behind.ensures
          c.loop-n.invariant.told c.in_ok-put_record.ensures.done;
      fits = one_further (λ r. RecordFits r) c.args.log.now.records c.loop-n.n
          c.record_behind.result.now within c.record_behind.ensures c.loop-n.invariant.fits
          c.in_ok-put_record.ensures.fits;
      count = omega (arith, before, after);
    }

pub returns-in_err-put_record-clause-part : goal.returns-in_err-put_record-clause-part
returns-in_err-put_record-clause-part g c =
    let less = c.loop-n-test.true in
    let all = c.loop-n.invariant.all in
    on_err c.from_residual.result (AfterPart (puts_of c.args.log.now.records)
    (g.D.Store.told c.args.store.now) (g.D.Store.told c.put_record.new.store))
    (record_part c.args.log.now.records c.loop-n.n c.record_behind.result.now
    (g.D.Store.told c.args.store.now) (g.D.Store.told c.loop-n.store)
    (g.D.Store.told c.put_record.new.store) (omega (arith, less, all)) c.record_behind.ensures
    c.loop-n.invariant.told c.in_err-put_record.ensures.part)
