use Rattle.std.proofs.Common.{rules}
use Rattle.volatile_log.proofs.Logs.{resumed_is_log}
use Rattle.volatile_log.proofs.frozen.FrozenLog.resume.Goals as goal

pub invariant_of-result : goal.invariant_of-result
invariant_of-result c = rw (c.max.ensures, c.max-2.ensures, c.max-3.ensures, c.drop_front.ensures.rest, c.take_room.ensures.same)
    (resumed_is_log _ c.args.base c.log.invariant (search rules) (search rules), search rules)
