use Rattle.std.proofs.Common.{arith}
use Rattle.idle_log.proofs.taking.adopt_lost.Goals as goal

pub adopt-requires-clause-base : goal.adopt-requires-clause-base
adopt-requires-clause-base c = (
  c.requires.can.disk 0 c.requires.stores,
  omega (arith, c.requires.can.covered, c.requires.pulled.1),
)
