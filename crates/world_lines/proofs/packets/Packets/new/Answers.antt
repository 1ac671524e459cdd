use Rattle.std.proofs.Common.{refl}
use Rattle.world_lines.proofs.Ways.{none_first}
use Rattle.world_lines.proofs.Machine.{none_stand}
use Rattle.world_lines.proofs.packets.Packets.new.Goals as goal

pub invariant_of-result : goal.invariant_of-result
invariant_of-result c = rw c.new.ensures.items (record { counted = refl; first = none_first })

-- of the machine

pub returns-clause-machine : goal.returns-clause-machine
returns-clause-machine c = rw c.new.ensures.items none_stand
