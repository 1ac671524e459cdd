use Rattle.std.proofs.Common.{ap, true, ◌∙◌, if◌then◌else◌}
use Rattle.event_record.specs.Record.{entry_of}
use Rattle.group_rules.specs.Effects.{taken}
use Rattle.group_rules.specs.Misfits.{room_tests}
use Rattle.group_rules.specs.Names.{number_of_view}
use Rattle.group_rules.specs.Places.{all_of}
use Rattle.group_rules.specs.Replicate.{is_in_view}
use Rattle.node.proofs.Tested.{room_from}
use Rattle.node.proofs.node.Node.misfits_event.Goals as goal

pub returns-else-not-follows-clause-room : goal.returns-else-not-follows-clause-room
returns-else-not-follows-clause-room c passed inside next =
    let e = entry_of c.args.item.now in
    let s = c.args.self.now.plain in
    room_from s (number_of_view c.args.view) c.args.base c.args.item.now.index e c.has_room.result
    passed (c.has_room.ensures e ∙ ap (λ k. if is_in_view s (number_of_view c.args.view)
    then all_of (room_tests s c.args.base (taken s k e)) else true)
    (c.get.ensures.value ∙ c.index.ensures)) inside next
