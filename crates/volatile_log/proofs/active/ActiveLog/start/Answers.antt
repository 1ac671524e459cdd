use Rattle.std.proofs.Common.{rules}
use Rattle.volatile_log.proofs.active.ActiveLog.start.Goals as goal

pub invariant_of-result : goal.invariant_of-result
invariant_of-result c = rw c.in_ok-with_capacity.ensures.items (search rules)
