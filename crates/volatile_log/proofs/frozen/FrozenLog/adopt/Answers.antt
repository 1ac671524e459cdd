use Rattle.std.proofs.Common.{rules}
use Rattle.volatile_log.proofs.Logs.{adopted_is_log}
use Rattle.volatile_log.proofs.frozen.FrozenLog.adopt.Goals as goal

pub invariant_of-result : goal.invariant_of-result
invariant_of-result c = rw (c.max.ensures, c.in-Ok.ensures.items, c.drop_front.ensures.rest, c.truncate.ensures.items, c.take_room.ensures.same, c.into_records-more.ensures.value) (
  adopted_is_log _ c.args.staged c.args.base c.args.cp c.log.invariant c.into_records-more.ensures.order c.requires.full (search rules)
      (search rules) (search rules) (search rules) c.requires.cp.1 c.requires.room,
  search rules,
)
