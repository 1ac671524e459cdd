use Rattle.std.proofs.Common.{◌<◌, ◌≤◌, ◌+◌, arith, ap}
use Rattle.std.specs.Prelude.{max}
use Rattle.node_outputs.specs.Records.{records_sent}
use Rattle.node_outputs.specs.Said.{said}
use Rattle.replica.specs.Leading.{Leading}
use Rattle.replica.proofs.Lists.{records_go_on}
use Rattle.replica.proofs.Ticking.{goes_on_sending}
use Rattle.volatile_log.specs.Log.{top}
use Rattle.replica.proofs.leader.Leader.send_again.Goals as goal

pub loop-n-preserved : goal.loop-n-preserved
loop-n-preserved c =
    let l = c.args.self.now in
    let n = c.loop-n.n in
    let first = max l.log.base l.told_top in
    let base = ap (λ (l : Leading). l.log.base) c.self.view_is in
    let tops = ap (λ (l : Leading). top l.log) c.self.view_is in
    let told = ap (λ (l : Leading). l.told_top) c.self.view_is in
    let from : l.log.base ≤ n =
    omega (arith, base, c.base.ensures.value, c.max-first.ensures, c.loop-n.auto.n) in
    let within : n < top l.log =
    omega (arith, tops, c.top.ensures.value, c.min-end.ensures, c.loop-n-test.true) in
    let few : n < first + 64 =
    omega (
      arith,
      base,
      told,
      c.base.ensures.value,
      c.max-first.ensures,
      c.min-end.ensures,
      c.loop-n-test.true,
    ) in
    record {
      sends = goes_on_sending l first n (said c.loop-n.outs) (said c.send_record.new.outs) _ from
          within few c.loop-n.invariant.sends c.in_ok-send_record.ensures.said;
      records = records_go_on l.log first n (records_sent c.loop-n.outs)
          (records_sent c.send_record.new.outs) _ from within few c.loop-n.invariant.records
          c.in_ok-send_record.ensures.records;
    }
