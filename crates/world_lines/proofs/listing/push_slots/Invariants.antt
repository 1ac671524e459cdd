use Rattle.std.proofs.Common.{◌≡◌, ◌++◌, map}
use Rattle.world_lines.specs.Lines.{line_of_slot}
use Rattle.world_lines.proofs.listing.push_slots.Given as goal

abbrev pub invariant-loop-slot : goal.invariant-loop-slot
invariant-loop-slot l = l.lines.items ≡ l.fn.lines.items ++ map (line_of_slot l.dir) l.yielded
