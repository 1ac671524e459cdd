use Rattle.std.proofs.Common.{◌≡◌, ◌++◌, length}
use Rattle.world_lines.specs.Given.{packets_of, sent_lines}
use Rattle.world_lines.proofs.given.post_all.Given as goal

abbrev pub invariant-loop-send : goal.invariant-loop-send
invariant-loop-send l = record {
  packets : l.packets ≡ l.fn.packets ++ packets_of l.from l.yielded;
  lines : l.lines.items ≡ l.fn.lines.items
      ++ sent_lines l.from (length l.fn.packets) l.yielded;
}
