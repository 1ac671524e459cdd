use Rattle.sweep.proofs.RunLaws.{one_run}
use Rattle.sweep.proofs.runs.sweep_one.Goals as goal

pub loop-run-preserved : goal.loop-run-preserved
loop-run-preserved g c =
    rw c.in_ok-push.ensures.items
    (one_run (g.P.Player.summary_of c.args.player.now) c.args.seed c.loop-run.run c.from.result
    c.args.lines c.loop-run.all.items c.in_ok-play_one.field-0 c.from.ensures
    c.in_ok-play_one.ensures c.loop-run.invariant)
