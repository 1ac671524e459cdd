use Rattle.std.proofs.Common.{◌≡◌, ◌++◌}
use Rattle.world_lines.specs.Lines.{lines_of_objects}
use Rattle.world_lines.proofs.listing.push_objects.Given as goal

abbrev pub invariant-loop-object : goal.invariant-loop-object
invariant-loop-object l = l.lines.items ≡ l.fn.lines.items ++ lines_of_objects l.yielded
