use Rattle.std.proofs.Common.{sym, ◌∙◌}
use Rattle.nfs_calls.proofs.Inodes.{is_inode, live_is, live_none}
use Rattle.nfs_calls.proofs.parts.inode.live.Goals as goal

pub returns-in-Some-clause-inode : goal.returns-in-Some-clause-inode
returns-in-Some-clause-inode g c t told =
    is_inode t.tree c.args.number c.in-Some.inode
    (sym c.in-Some.is ∙ c.in_ok-inode.ensures.inode t told)

pub returns-in-Some-clause-step : goal.returns-in-Some-clause-step
returns-in-Some-clause-step g c t told =
    live_is t.tree c.args.number c.in-Some.inode
    (is_inode t.tree c.args.number c.in-Some.inode
    (sym c.in-Some.is ∙ c.in_ok-inode.ensures.inode t told))

pub returns-in-None-clause-step : goal.returns-in-None-clause-step
returns-in-None-clause-step g c t told =
    live_none t.tree c.args.number (sym c.in-None.is ∙ c.in_ok-inode.ensures.inode t told)
