use Rattle.std.proofs.Common.{arith, ap, length}
use Rattle.world_lines.proofs.Machine.{as_many_stand}
use Rattle.world_lines.proofs.packets.Packets.count.Goals as goal

pub returns-clause-machine : goal.returns-clause-machine
returns-clause-machine c packets numbers stands =
    omega (
      arith,
      as_many_stand c.args.self.now packets numbers stands,
      c.len.ensures,
      ap length c.self.view_is,
      c.self.inside.kept.ok.0,
    )
