use Rattle.std.proofs.Common.{rules}
use Rattle.volatile_log.proofs.Logs.{taken_is_staged}
use Rattle.volatile_log.proofs.staged.Staged.take.Goals as goal

pub invariant_of-self : goal.invariant_of-self
invariant_of-self c = rw c.push_back.ensures.items (taken_is_staged _ _ c.args.item c.self.invariant (search rules) (search rules))
