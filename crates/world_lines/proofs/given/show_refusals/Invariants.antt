use Rattle.std.proofs.Common.{◌≡◌, ◌++◌, drop}
use Rattle.world_lines.specs.Given.{refused_lines}
use Rattle.world_lines.proofs.given.show_refusals.Given as goal

abbrev pub invariant-loop-refusal : goal.invariant-loop-refusal
invariant-loop-refusal l = l.lines.items ++ refused_lines l.server (drop l.refusal-index l.refusals)
    ≡ l.initial.lines.items ++ refused_lines l.server l.refusals
