use Rattle.std.proofs.Common.{◌≡◌, ◌++◌}
use Rattle.world_lines.specs.Given.{answered_lines}
use Rattle.world_lines.proofs.given.show_answers.Given as goal

abbrev pub invariant-loop-answer : goal.invariant-loop-answer
invariant-loop-answer l = l.lines.items ≡ l.fn.lines.items ++ answered_lines l.server l.yielded
