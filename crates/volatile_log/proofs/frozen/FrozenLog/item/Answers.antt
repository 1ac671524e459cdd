use Rattle.std.proofs.Common.{arith, rules}
use Rattle.volatile_log.proofs.Numbers.{lent_at}
use Rattle.volatile_log.proofs.frozen.FrozenLog.item.Goals as goal

pub returns-clause-index : goal.returns-clause-index
returns-clause-index c = lent_at _ _ _ _ c.get.result c.self.invariant.numbered (search rules) c.get.ensures.lookup (omega arith)
