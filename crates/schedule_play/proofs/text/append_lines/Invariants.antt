use Rattle.std.proofs.Common.{◌≡◌, ◌++◌, drop}
use Rattle.schedule_play.specs.Trace.{trace_text}
use Rattle.schedule_play.proofs.text.append_lines.Given as goal

abbrev pub invariant-loop-line : goal.invariant-loop-line
invariant-loop-line l =
    l.out.items ++ trace_text (drop l.line-index l.lines)
    ≡ l.fn.out.items ++ trace_text l.lines
