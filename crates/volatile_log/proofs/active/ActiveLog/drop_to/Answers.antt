use Rattle.std.proofs.Common.{rules}
use Rattle.volatile_log.proofs.Logs.{dropped_is_log}
use Rattle.volatile_log.proofs.active.ActiveLog.drop_to.Goals as goal

pub invariant_of-self : goal.invariant_of-self
invariant_of-self c = rw c.drop_front.ensures.rest (dropped_is_log _ c.args.n c.self.invariant.0 (search rules) (search rules), search rules)
