use Rattle.node.proofs.Tested.{room_next, room_other}
use Rattle.node.proofs.misfits_active.has_room.Goals as goal

pub returns-then-index-top : goal.returns-then-index-top
returns-then-index-top c items e count = room_next c.args.own c.args.top c.args.base c.args.index
    c.saturating_sub.result c.saturating_sub-dropped.result items e count
    c.saturating_sub-dropped.ensures c.if-index-top.true c.saturating_sub.ensures

pub returns-else-index-top : goal.returns-else-index-top
returns-else-index-top c items e count = room_other c.args.own c.args.top c.args.base
    c.args.index c.saturating_sub-else-index-top.result c.saturating_sub-dropped.result items e
    count c.saturating_sub-dropped.ensures c.if-index-top.false
    c.saturating_sub-else-index-top.ensures
