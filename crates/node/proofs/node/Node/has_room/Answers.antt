use Rattle.std.proofs.Common.{true, false, ap}
use Rattle.group_rules.specs.Effects.{taken}
use Rattle.group_rules.specs.Misfits.{room_tests}
use Rattle.group_rules.specs.Names.{number_of_view}
use Rattle.group_rules.specs.Places.{all_of}
use Rattle.group_rules.specs.Replicate.{is_in_view}
use Rattle.node.proofs.Heeds.{accepted_test, in_view_followed, in_view_led, other_view}
use Rattle.node.proofs.Tested.{followed_numbers, led_numbers, not_active, untested, where_in}
use Rattle.node.specs.Active.{is_followed, is_led}
use Rattle.node.proofs.node.Node.has_room.Goals as goal

pub returns-then-not-is_view : goal.returns-then-not-is_view
returns-then-not-is_view c e =
    let n = c.self.inside in
    let s = c.args.self.now.plain in
    let v = number_of_view c.args.view in
    untested (is_in_view s v) (all_of (room_tests s c.args.base (taken s c.args.index e)))
    (other_view s v (accepted_test n.me n.mark n.horizon n.served n.duty n.state c.args.self.now
    c.args.view c.accepted.result c.is_view.result false c.self.view_is c.accepted.ensures
    c.is_view.ensures c.if-not-is_view.true))

pub returns-in-Rests : goal.returns-in-Rests
returns-in-Rests c e =
    let n = c.self.inside in
    let s = c.args.self.now.plain in
    let v = number_of_view c.args.view in
    untested (is_in_view s v) (all_of (room_tests s c.args.base (taken s c.args.index e)))
    (not_active n.me n.mark n.horizon n.served n.duty n.state c.args.self.now v c.self.view_is
    (ap is_led c.in-Rests.is) (ap is_followed c.in-Rests.is))

pub returns-in-Joined : goal.returns-in-Joined
returns-in-Joined c e =
    let n = c.self.inside in
    let s = c.args.self.now.plain in
    let v = number_of_view c.args.view in
    untested (is_in_view s v) (all_of (room_tests s c.args.base (taken s c.args.index e)))
    (not_active n.me n.mark n.horizon n.served n.duty n.state c.args.self.now v c.self.view_is
    (ap is_led c.in-Joined.is) (ap is_followed c.in-Joined.is))

pub returns-in-Pulls : goal.returns-in-Pulls
returns-in-Pulls c e =
    let n = c.self.inside in
    let s = c.args.self.now.plain in
    let v = number_of_view c.args.view in
    untested (is_in_view s v) (all_of (room_tests s c.args.base (taken s c.args.index e)))
    (not_active n.me n.mark n.horizon n.served n.duty n.state c.args.self.now v c.self.view_is
    (ap is_led c.in-Pulls.is) (ap is_followed c.in-Pulls.is))

pub returns-in-Leads : goal.returns-in-Leads
returns-in-Leads c e =
    let n = c.self.inside in
    let now = c.args.self.now in
    let s = now.plain in
    let v = number_of_view c.args.view in
    where_in (is_in_view s v) c.has_room.result
    (all_of (room_tests s c.args.base (taken s c.args.index e)))
    (in_view_led n.me n.mark n.horizon n.served n.duty n.state c.in-Leads.leader c.in-Leads.field-1
    now v c.self.view_is c.in-Leads.is (accepted_test n.me n.mark n.horizon n.served n.duty
    n.state now c.args.view c.accepted.result c.is_view.result true c.self.view_is
    c.accepted.ensures c.is_view.ensures c.if-not-is_view.false))
    (led_numbers n.me n.mark n.horizon n.served n.duty n.state c.in-Leads.leader c.in-Leads.field-1
    now c.log-log.result.now c.base.result c.top.result c.args.base c.args.index e
    c.has_room.result c.self.view_is c.in-Leads.is c.log-log.ensures
    c.base.ensures.value c.top.ensures.value c.has_room.ensures)

pub returns-in-Follows : goal.returns-in-Follows
returns-in-Follows c e =
    let n = c.self.inside in
    let now = c.args.self.now in
    let s = now.plain in
    let v = number_of_view c.args.view in
    where_in (is_in_view s v) c.has_room-in-Follows.result
    (all_of (room_tests s c.args.base (taken s c.args.index e)))
    (in_view_followed n.me n.mark n.horizon n.served n.duty n.state c.in-Follows.partner
    c.in-Follows.field-1
    now v c.self.view_is c.in-Follows.is (accepted_test n.me n.mark n.horizon n.served n.duty
    n.state now c.args.view c.accepted.result c.is_view.result true c.self.view_is
    c.accepted.ensures c.is_view.ensures c.if-not-is_view.false))
    (followed_numbers n.me n.mark n.horizon n.served n.duty n.state c.in-Follows.partner
    c.in-Follows.field-1
    now c.log-log-in-Follows.result.now c.base-in-Follows.result c.top-in-Follows.result
    c.args.base c.args.index e
    c.has_room-in-Follows.result c.self.view_is c.in-Follows.is c.log-log-in-Follows.ensures
    c.base-in-Follows.ensures.value c.top-in-Follows.ensures.value c.has_room-in-Follows.ensures)
