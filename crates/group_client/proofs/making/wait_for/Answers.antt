use Rattle.std.proofs.Common.{Err, arith, ap}
use Rattle.group_client.specs.Calling.{asking_of}
use Rattle.group_client.proofs.Calls.{cuts_off, ends, waits_on}
use Rattle.group_client.proofs.making.wait_for.Goals as goal

pub returns-in-Err-clause-goes : goal.returns-in-Err-clause-goes
returns-in-Err-clause-goes g c =
    c.loop-left.invariant.rest _ (cuts_off (asking_of c.args.asking.now) c.loop-left.left
    c.loop-left.wait _ _ c.in-Err.fault c.loop-left-test.true
    (λ e. c.in-Err.ensures.unspent (ap Err e)) c.in-Err.ensures.cut)

pub loop-left-preserved : goal.loop-left-preserved
loop-left-preserved g c = record {
  rest = λ o h. c.loop-left.invariant.rest o (waits_on (asking_of c.args.asking.now)
      c.loop-left.left c.loop-left.wait c.in-Ok-Waits.next _ _ c.in-Ok-Waits.field-0 o
      c.loop-left-test.true c.in-Ok-Waits.field-0-is c.in-Ok-Waits.ensures.step h);
  pause = rw c.in-Ok-Waits.field-0-is at c.in-Ok-Waits.ensures.form;
  count = omega (arith, c.loop-left.invariant.count, c.in-Ok-Waits.ensures.counts.0);
}

pub returns-in-Ok-Ends-clause-goes : goal.returns-in-Ok-Ends-clause-goes
returns-in-Ok-Ends-clause-goes g c =
    c.loop-left.invariant.rest _ (ends (asking_of c.args.asking.now) c.loop-left.left
    c.loop-left.wait _ _ c.in-Ok-Ends.field-0 c.in-Ok-Ends.replied c.loop-left-test.true
    c.in-Ok-Ends.field-0-is c.in-Ok-Ends.ensures.step)
