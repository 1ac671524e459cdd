use Rattle.std.proofs.Common.{sym, ◌∙◌}
use Rattle.nfs_calls.proofs.Inodes.{is_inode, no_inode}
use Rattle.nfs_calls.proofs.TakenAway.{named_lives}
use Rattle.nfs_calls.proofs.parts.loss.named.Goals as goal

pub returns-in-Some-clause-inode : goal.returns-in-Some-clause-inode
returns-in-Some-clause-inode g c t dir slot name told e =
    is_inode t.tree c.args.number c.in-Some.inode
    (sym c.in-Some.is ∙ c.in_ok-inode.ensures.inode t told)

pub returns-in-None-clause-inode : goal.returns-in-None-clause-inode
returns-in-None-clause-inode g c t dir slot name told e =
    absurd (named_lives t.tree dir name (slot, c.args.number) t.sound e
    (no_inode t.tree c.args.number (sym c.in-None.is ∙ c.in_ok-inode.ensures.inode t told)))
