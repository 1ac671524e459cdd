use Rattle.std.proofs.Common.{rules}
use Rattle.tree_log.proofs.Holding.{of_book}
use Rattle.tree_log.proofs.reading.answer_over.Goals as goal

pub returns-clause-reply : goal.returns-clause-reply
returns-clause-reply g c held list told stand =
    c.answer.ensures.reply (of_book held list stand) 0 (search (rules, told))
