use Rattle.std.proofs.Common.{subst, sym, ◌∙◌}
use Rattle.file_tree.specs.Tree.{place, slots_of}
use Rattle.inode_dirs.specs.Searches.{IsSought}
use Rattle.nfs_calls.specs.Gives.{Gives}
use Rattle.nfs_calls.specs.Plans.{plan_view}
use Rattle.nfs_calls.proofs.NewPlans.{create_sets}
use Rattle.nfs_calls.specs.TreeCells.{IsDirectory}
use Rattle.nfs_calls.proofs.updates.create.create.Goals as goal

pub returns-in-Entry-clause-plan : goal.returns-in-Entry-clause-plan
returns-in-Entry-clause-plan g c t told totals =
    let a = c.args in
    let listed = c.searched.ensures.kept ∙ told in
    let is : IsDirectory t.tree a.dir c.in_ok-inode.inode =
    c.in_ok-inode.ensures.directory t told in
    let found =
    subst (IsSought (slots_of (place t.tree a.dir)) a.name.now) c.in-Entry.is
    (c.in_ok-object.ensures.sought t listed is) in
    subst (Gives plan_view c.create_again.result)
    (sym (create_sets t.cells t.tree a.cred a.dir a.name.now a.attr.now a.now
    _ (c.in_ok-inode.ensures.step t told)
    (sym c.in_ok-entry_name.ensures.step) found))
    (c.create_again.ensures.plan t (c.entry_or_slot.ensures.kept ∙ listed) totals)

pub returns-in-Free-clause-rose : goal.returns-in-Free-clause-rose
returns-in-Free-clause-rose g c e = absurd (c.create_new.ensures.store e)
