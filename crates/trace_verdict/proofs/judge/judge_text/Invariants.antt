use Rattle.std.proofs.Common.{◌+◌, ◌-◌, ◌^◌}
use Rattle.line_reader.specs.Reading.{text_left}
use Rattle.trace_verdict.proofs.Turning.{Keeps}
use Rattle.trace_verdict.proofs.judge.judge_text.Given as goal

abbrev pub invariant-loop-verdict : goal.invariant-loop-verdict
invariant-loop-verdict g l =
    Keeps (g.S.Source.left l.fn.source) (text_left l.reader (g.S.Source.left l.source)) l.judge
    (g.S.Source.faults l.fn.source) (g.S.Source.faults l.source)

abbrev pub decreases-loop-verdict : goal.decreases-loop-verdict
decreases-loop-verdict g l = 2 ^ 40 + 1 - l.judge.lines
