use Rattle.std.proofs.Common.{rules, subst, ◌∙◌}
use Rattle.line_reader.specs.Reading.{GivesKnown, text_left}
use Rattle.trace_verdict.proofs.Turning.{end_turn, line_turn, long_turn}
use Rattle.trace_verdict.proofs.judge.Judge.turn.Goals as goal

pub returns-in-Ok-End-clause-after : goal.returns-in-Ok-End-clause-after
returns-in-Ok-End-clause-after g c text left is way =
    let old = text_left c.args.reader.now (g.S.Source.left c.args.source.now) in
    let told = text_left c.next.new.self (g.S.Source.left c.next.new.source) in
    end_turn text left old told c.args.self.now c.at_end.result is way
    (subst (λ n. GivesKnown old told n) c.in-Ok-End.field-0-is c.in-Ok-End.ensures.ok)
    (c.at_end.ensures text)

pub returns-in-Ok-TooLong-clause-after : goal.returns-in-Ok-TooLong-clause-after
returns-in-Ok-TooLong-clause-after g c text left is way =
    let old = text_left c.args.reader.now (g.S.Source.left c.args.source.now) in
    let told = text_left c.next.new.self (g.S.Source.left c.next.new.source) in
    long_turn text left old told c.args.self.now c.too_long.result is
    (subst (λ n. GivesKnown old told n) c.in-Ok-TooLong.field-0-is c.in-Ok-TooLong.ensures.ok)
    (λ line lines e long. c.too_long.ensures text left line lines way e long)

pub returns-in-Ok-clause-after : goal.returns-in-Ok-clause-after
returns-in-Ok-clause-after g c text left is way =
    let old = text_left c.args.reader.now (g.S.Source.left c.args.source.now) in
    let told = text_left c.next.new.self (g.S.Source.left c.next.new.source) in
    rw c.take_back.ensures (line_turn text left old told c.in-Ok-Line.line
    c.take_line-verdict.new.self c.in-Ok.verdict is
    (subst (λ n. GivesKnown old told n) c.in-Ok-Line.field-0-is c.in-Ok-Line.ensures.ok)
    (λ after e. c.in-Ok.ensures.after text left after way (e ∙ search (rules))))
