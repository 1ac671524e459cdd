use Rattle.std.proofs.Common.{◌≡◌, ◌++◌, map}
use Rattle.world_lines.specs.Lines.{line_of_block}
use Rattle.world_lines.proofs.listing.push_blocks.Given as goal

abbrev pub invariant-loop-block : goal.invariant-loop-block
invariant-loop-block l = l.lines.items ≡ l.fn.lines.items ++ map (line_of_block l.file) l.yielded
