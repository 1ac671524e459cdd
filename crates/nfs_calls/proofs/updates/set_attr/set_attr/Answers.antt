use Rattle.std.proofs.Common.{◌∙◌}
use Rattle.nfs_calls.proofs.FilePlans.{set_attr_plan}
use Rattle.nfs_calls.proofs.updates.set_attr.set_attr.Goals as goal

pub returns-clause-plan : goal.returns-clause-plan
returns-clause-plan g c t told totals =
    let own = c.in_ok-inode.ensures.inode t told in
    set_attr_plan t.cells t.tree c.args.cred c.args.handle c.args.attr.now c.args.now
    c.in_ok-set.set c.attr_by.result
    (c.in_ok-set.ensures.step t (c.live.ensures.kept ∙ told) totals own)
    (c.in_ok-set.ensures.set t (c.live.ensures.kept ∙ told) totals own) c.attr_by.ensures
