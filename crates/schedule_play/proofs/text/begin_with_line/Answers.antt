use Rattle.schedule_play.proofs.TraceTexts.{event-text}
use Rattle.schedule_play.proofs.text.begin_with_line.Goals as goal

pub returns : goal.returns
returns c = λ s is.
    rw (
      c.in_ok-push.ensures.items,
      c.in_ok-extend_from_slice-2.ensures.items,
      c.in_ok-extend_from_slice.ensures.items,
      c.clear.ensures.items,
    )
    (event-text c.args.line.now s is)
