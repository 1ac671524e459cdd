use Rattle.std.proofs.lemmas.Result.{on_ok_weaker}
use Rattle.node.proofs.Duties.{invites_made}
use Rattle.node.proofs.node.Node.do_duty.Goals as goal

pub returns-in_ok-invite_again-in-Collects-2-clause-makes : goal.returns-in_ok-invite_again-in-Collects-2-clause-makes
returns-in_ok-invite_again-in-Collects-2-clause-makes c =
    let n = c.self.inside in
    on_ok_weaker c.invite_again-in-Collects-2.result
    (λ third items clock. invites_made n.me n.mark n.horizon n.served n.duty n.state
    c.in-Collects.collector c.args.self.now items clock c.promised-view.result
    c.joins-joins.result.now
    c.args.outs.now c.invite_again.new.outs c.invite_again-in-Collects.new.outs
    c.invite_again-in-Collects-2.new.outs c.self.view_is c.in-Collects.is
    c.promised-view.ensures.value
    c.joins-joins.ensures c.in_ok-invite_again-in-Collects.ensures.said
    c.in_ok-invite_again-in-Collects-2.ensures.said third)
    c.invite_again-in-Collects-2.ensures.said
