use Rattle.std.proofs.Common.{None, refl, subst}
use Rattle.node_loop.specs.Arriving.{Arrives}
use Rattle.node_loop.proofs.turn.come.Goals as goal

pub returns-in-None-clause-comes : goal.returns-in-None-clause-comes
returns-in-None-clause-comes c = (
  None,
  subst (Arrives c.args.datagram.now) c.in-None.is c.in_ok-input.ensures,
  c.in_ok-inputs.ensures.items,
  refl,
)
