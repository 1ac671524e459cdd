use Rattle.schedule_play.proofs.TraceTexts.{delivery-text}
use Rattle.schedule_play.proofs.text.begin_with_delivery.Goals as goal

pub returns : goal.returns
returns c =
    rw (
      c.in_ok-push.ensures.items,
      c.in_ok-put_named.ensures,
      c.clear.ensures.items,
    )
    (delivery-text c.args.packet)
