use Rattle.node.proofs.Shown.{shown_follows, shown_joined, shown_leads, shown_pulls, shown_rests}
use Rattle.node.specs.State.{duty_of}
use Rattle.node.proofs.node.Node.state_line.Goals as goal

pub returns-in-Rests : goal.returns-in-Rests
returns-in-Rests c items =
    let n = c.self.inside in
    shown_rests n.me n.mark n.horizon n.served n.duty n.state c.args.self.now c.self.view_is
    c.self.invariant.1 items c.line_of_kept.result c.in-Rests.kept c.in-Rests.is
    c.line_of_kept.ensures

pub returns-in-Joined : goal.returns-in-Joined
returns-in-Joined c items =
    let n = c.self.inside in
    shown_joined n.me n.mark n.horizon n.served n.duty n.state c.args.self.now c.self.view_is
    c.self.invariant.1 items c.line_of_kept-in-Joined.result c.in-Joined.kept c.in-Joined.field-1
    c.joined_mode.result c.in-Joined.is c.joined_mode.ensures c.line_of_kept-in-Joined.ensures

pub returns-in-Pulls : goal.returns-in-Pulls
returns-in-Pulls c items =
    let n = c.self.inside in
    shown_pulls n.me n.mark n.horizon n.served n.duty n.state c.args.self.now c.self.view_is
    c.self.invariant.1 items c.line_of_kept-in-Pulls.result c.in-Pulls.kept c.in-Pulls.field-1
    c.in-Pulls.field-2 c.in-Pulls.field-3 c.in-Pulls.is c.line_of_kept-in-Pulls.ensures

pub returns-in-Leads : goal.returns-in-Leads
returns-in-Leads c items =
    let n = c.self.inside in
    shown_leads n.me n.mark n.horizon n.served n.duty n.state c.args.self.now c.self.view_is
    c.self.invariant.1 items c.line_of_log.result c.in-Leads.leader c.in-Leads.field-1
    c.led_mode.result c.log.result.now c.in-Leads.is (c.led_mode.ensures (duty_of n.duty))
    c.log.ensures c.line_of_log.ensures

pub returns-in-Follows : goal.returns-in-Follows
returns-in-Follows c items =
    let n = c.self.inside in
    shown_follows n.me n.mark n.horizon n.served n.duty n.state c.args.self.now c.self.view_is
    c.self.invariant.1 items c.line_of_log-in-Follows.result c.in-Follows.partner
    c.in-Follows.field-1 c.followed_mode.result c.log-in-Follows.result.now c.in-Follows.is
    (c.followed_mode.ensures (duty_of n.duty)) c.log-in-Follows.ensures
    c.line_of_log-in-Follows.ensures
