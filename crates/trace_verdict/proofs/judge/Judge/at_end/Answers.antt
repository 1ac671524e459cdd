use Rattle.std.proofs.Common.{rules}
use Rattle.trace_verdict.proofs.Deciding.{at_last, unfinished}
use Rattle.trace_verdict.proofs.judge.Judge.at_end.Goals as goal

pub returns-then-self : goal.returns-then-self
returns-then-self c text way = at_last text c.args.self.now way c.requires (search (rules))

pub returns : goal.returns
returns c text way = unfinished text c.args.self.now way c.requires (search (rules))
