use Rattle.nfs_calls.proofs.TakenAway.{empty_is}
use Rattle.nfs_calls.proofs.updates.remove.is_empty.Goals as goal

pub returns-clause-empty : goal.returns-clause-empty
returns-clause-empty g c t told is =
    empty_is t _ c.args.number c.args.inode.now c.in_ok-page.page.entries.items
    c.in_ok-page.page.eof told is c.in_ok-page.ensures.page
