use Rattle.std.proofs.Common.{true}
use Rattle.group_rules.specs.Names.{number_of_view, place_of}
use Rattle.idle_log.specs.Kept.{plan_of}
use Rattle.node.proofs.Tested.{fits_joined, joined_kept, promised_test}
use Rattle.node.proofs.node.Node.takes.Goals as goal

pub returns-in-Joined : goal.returns-in-Joined
returns-in-Joined c =
    let n = c.self.inside in
    fits_joined n.me n.mark n.horizon n.served n.duty n.state c.in-Joined.kept c.in-Joined.field-1
    c.args.self.now (number_of_view c.args.view) (plan_of c.args.plan.now) c.lb.result c.fits.result
    c.self.view_is c.in-Joined.is
    (joined_kept (place_of n.me) n.mark n.state c.in-Joined.kept c.in-Joined.field-1 c.in-Joined.is
    c.self.invariant.1)
    (promised_test n.me n.mark n.horizon n.served n.duty n.state c.args.self.now c.args.view
    c.promised.result c.is_view.result true c.self.view_is c.promised.ensures.value
    c.is_view.ensures c.if-not-is_view.false) c.lb.ensures.value c.fits.ensures.test
