use Rattle.node.proofs.Views.{still_below}
use Rattle.node.proofs.joining.promised_mark.Goals as goal

pub with_promised-requires : goal.with_promised-requires
with_promised-requires c = still_below c.args.mark.accepted c.args.mark.promised c.args.view
    c.promised.ensures.order c.requires
