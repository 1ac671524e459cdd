use Rattle.std.proofs.Common.{◌≡◌, ◌+◌, ◌++◌, length, map}
use Rattle.group_trace.specs.Lines.{entered_lines}
use Rattle.node_outputs.specs.Said.{entered}
use Rattle.world_lines.specs.Book.{new_updates}
use Rattle.world_lines.proofs.book.Book.enter_each.Given as goal

abbrev pub invariant-loop-update : goal.invariant-loop-update
invariant-loop-update l = record {
  entries : l.self.entries ≡ l.fn.self.entries
      ++ new_updates l.fn.self.updates (map entered l.yielded);
  updates : l.self.updates ≡ l.fn.self.updates
      + length (new_updates l.fn.self.updates (map entered l.yielded));
  lines : l.lines.items ≡ l.fn.lines.items ++ entered_lines (length l.fn.self.entries)
      (new_updates l.fn.self.updates (map entered l.yielded));
}
