use Rattle.std.proofs.Common.{◌+◌, [], ap, length}
use Rattle.std.proofs.lemmas.Result.{on_ok_weaker}
use Rattle.group_rules.specs.Names.{place_of}
use Rattle.group_rules.specs.Tick.{again}
use Rattle.node.proofs.Again.{fetches_again, none_again, sends_again}
use Rattle.node.proofs.Heeds.{leaves}
use Rattle.node.proofs.InView.{follows_same}
use Rattle.node.proofs.Sent.{sent_again, sent_as}
use Rattle.node.specs.Node.{server}
use Rattle.node.specs.State.{outer}
use Rattle.node.proofs.node.Node.send_again.Goals as goal

pub returns-in-Rests-clause-makes : goal.returns-in-Rests-clause-makes
returns-in-Rests-clause-makes c items clock =
    let n = c.self.inside in
    let now = c.args.self.now in
    leaves now.me clock (again now.me (server now items)) (server now items) [] c.args.outs.now
    (none_again n.me n.mark n.horizon n.served n.duty n.state now items c.self.view_is
    c.self.invariant.1 (ap sends_again c.in-Rests.is))

pub returns-in-Joined-clause-makes : goal.returns-in-Joined-clause-makes
returns-in-Joined-clause-makes c items clock =
    let n = c.self.inside in
    let now = c.args.self.now in
    leaves now.me clock (again now.me (server now items)) (server now items) [] c.args.outs.now
    (none_again n.me n.mark n.horizon n.served n.duty n.state now items c.self.view_is
    c.self.invariant.1 (ap sends_again c.in-Joined.is))

pub returns-in-Leads-clause-makes : goal.returns-in-Leads-clause-makes
returns-in-Leads-clause-makes c items clock =
    let n = c.self.inside in
    let now = c.args.self.now in
    leaves now.me clock (again now.me (server now items)) (server now items) [] c.args.outs.now
    (none_again n.me n.mark n.horizon n.served n.duty n.state now items c.self.view_is
    c.self.invariant.1 (ap sends_again c.in-Leads.is))

pub returns-in-Pulls-clause-makes : goal.returns-in-Pulls-clause-makes
returns-in-Pulls-clause-makes c =
    let n = c.self.inside in
    let now = c.args.self.now in
    on_ok_weaker c.send.result
    (λ told items clock. sent_as now.me clock (again now.me (server now items)) n.mark.promised
    (place_of c.in-Pulls.plan.source) c.promised.result c.next.result
    (c.in-Pulls.staged.first + length c.in-Pulls.staged.records) (server now items) c.args.outs.now
    c.send.new.self (sent_again now.me (server now items))
    (fetches_again n.me n.mark n.horizon n.served n.duty n.state c.in-Pulls.field-0
    c.in-Pulls.field-1 c.in-Pulls.plan c.in-Pulls.staged now items c.self.view_is c.in-Pulls.is
    c.self.invariant.1) c.promised.ensures.value c.next.ensures.value told)
    c.send.ensures.said

pub returns-in-Follows-clause-makes : goal.returns-in-Follows-clause-makes
returns-in-Follows-clause-makes c =
    let n = c.self.inside in
    let now = c.args.self.now in
    let plan = c.in-Follows.field-1 in
    on_ok_weaker c.tick.result
    (λ made items clock. follows_same n.me n.mark n.horizon n.served n.duty c.in-Follows.partner
    plan n.state now items clock again c.args.outs.now c.tick.new.outs c.in-Follows.is
    c.self.view_is c.self.invariant.1
    (made (outer n.me n.mark n.horizon n.served n.duty plan) clock))
    c.tick.ensures.makes
