use Rattle.std.proofs.Common.{refl, rules}
use Rattle.line_reader.specs.Lines.{lines_of}
use Rattle.trace_verdict.proofs.Deciding.{after_ok, is_next, too_many}
use Rattle.trace_verdict.proofs.judge.Judge.take_line.Goals as goal

pub returns-then-self-ge-LINES-clause-after : goal.returns-then-self-ge-LINES-clause-after
returns-then-self-ge-LINES-clause-after c text left after way e =
    too_many text c.args.self.now c.args.line.now
    (is_next text left c.args.self.now c.args.line.now (lines_of after) way e) (search (rules))

pub returns-clause-after : goal.returns-clause-after
returns-clause-after c text left after way e =
    after_ok text after c.args.self.now c.take.new.self c.args.line.now
    (is_next text left c.args.self.now c.args.line.now (lines_of after) way e) refl
    (search (rules)) c.requires.short c.take.result
    (c.take.ensures.after way.taken way.before way.took)
