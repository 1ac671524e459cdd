use Rattle.std.proofs.Common.{rules}
use Rattle.trace_verdict.proofs.Deciding.{is_next, too_long, too_many}
use Rattle.trace_verdict.proofs.judge.Judge.too_long.Goals as goal

pub returns-then-self-ge-LINES : goal.returns-then-self-ge-LINES
returns-then-self-ge-LINES c text left line lines way e long =
    too_many text c.args.self.now line (is_next text left c.args.self.now line lines way e)
    (search (rules))

pub returns : goal.returns
returns c text left line lines way e long =
    too_long text c.args.self.now line (is_next text left c.args.self.now line lines way e)
    (search (rules)) long
