use Rattle.std.proofs.Common.{arith}
use Rattle.tree_log.proofs.tree_log.drop_indexed.Goals as goal

pub returns-clause-within : goal.returns-clause-within
returns-clause-within c =
    let to = c.requires.dropped.1 in
    let order = c.top.ensures.order in
    let is_lb = order.lb in
    let is_ap = order.ap in
    let is_cp = order.cp in
    (omega arith, omega (arith, to, is_lb, is_ap, is_cp))
