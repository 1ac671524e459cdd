use Rattle.observe_play.proofs.TraceTexts.{one-line}
use Rattle.observe_play.proofs.text.append_one.Goals as goal

pub returns : goal.returns
returns c =
    rw (c.in_ok-push.ensures.items, c.in_ok-append_observed.ensures)
    (one-line c.args.out.now.items c.args.line.now)
