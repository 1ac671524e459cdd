use Rattle.std.proofs.Common.{rules}
use Rattle.tree_log.proofs.Holding.{of_book}
use Rattle.tree_log.proofs.listing.objects_over.Goals as goal

pub returns-clause-objects : goal.returns-clause-objects
returns-clause-objects g c held list told stand =
    c.list_tree.ensures.list (of_book held list stand) (search (rules, told))
