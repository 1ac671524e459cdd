use Rattle.std.proofs.Common.{◌≡◌, ◌++◌, drop, length}
use Rattle.group_trace.specs.Lines.{entered_lines}
use Rattle.world_lines.specs.Given.{reads_in}
use Rattle.world_lines.proofs.book.Book.enter_reads.Given as goal

abbrev pub invariant-loop-answer : goal.invariant-loop-answer
invariant-loop-answer l = record {
  entries : l.self.entries ++ reads_in (drop l.answer-index l.answers)
      ≡ l.initial.self.entries ++ reads_in l.answers;
  updates : l.self.updates ≡ l.initial.self.updates;
  lines : l.lines.items ++ entered_lines (length l.self.entries)
      (reads_in (drop l.answer-index l.answers)) ≡ l.initial.lines.items
      ++ entered_lines (length l.initial.self.entries) (reads_in l.answers);
}
