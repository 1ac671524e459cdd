use Rattle.std.proofs.Common.{◌≡◌, ◌++◌, drop}
use Rattle.audit_verdict.specs.Texts.{lines_text}
use Rattle.audit_verdict.proofs.text.put_lines.Given as goal

abbrev pub invariant-loop-line : goal.invariant-loop-line
invariant-loop-line l =
    l.out.items ++ lines_text (drop l.line-index l.lines)
    ≡ l.fn.out.items ++ lines_text l.lines
