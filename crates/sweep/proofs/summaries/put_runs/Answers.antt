use Rattle.sweep.proofs.TextLaws.{one_run, no_run}
use Rattle.sweep.proofs.summaries.put_runs.Goals as goal

pub loop-run-preserved : goal.loop-run-preserved
loop-run-preserved c =
    rw (c.in_ok-push.ensures.items, c.in_ok-put_run.ensures)
    (one_run c.loop-run.out.items c.args.seed c.args.all.now c.loop-run.run _ _
    c.loop-run-test.true c.loop-run.invariant)

pub returns : goal.returns
returns c =
    no_run c.loop-run.out.items c.args.seed c.args.all.now c.loop-run.run _ c.loop-run-test.false
    c.loop-run.invariant
