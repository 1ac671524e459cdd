use Rattle.std.proofs.Common.{arith}
use Rattle.schedule_play.proofs.NextLines.{given-long, given-past}
use Rattle.schedule_play.proofs.schedule.fault_of_long_line.Goals as goal

pub returns-then-number-gt-MOST_LINES : goal.returns-then-number-gt-MOST_LINES
returns-then-number-gt-MOST_LINES c = λ line long. given-past c.args.number line (omega arith)

pub returns-else-number-gt-MOST_LINES : goal.returns-else-number-gt-MOST_LINES
returns-else-number-gt-MOST_LINES c = λ line long. given-long c.args.number line (omega arith) long
