use Rattle.std.proofs.Common.{◌≡◌, sym, ap, subst, ◌∙◌, Ok}
use Rattle.std.specs.Prelude.{not}
use Rattle.harp_types.specs.declared.attr.SetAttr.{SetAttr}
use Rattle.harp_types.specs.declared.reply.Status.TheVariants.{Exist}
use Rattle.file_tree.specs.Tries.{refuse}
use Rattle.file_tree.specs.Outcome.{set_fields}
use Rattle.nfs_calls.specs.declared.error.CallError.TheVariants as error
use Rattle.nfs_calls.specs.Gives.{Fails}
use Rattle.nfs_calls.specs.Plans.{plan_view}
use Rattle.nfs_calls.specs.Attributes.{set_tree}
use Rattle.nfs_calls.specs.TreeCells.{IsInode, object_at}
use Rattle.nfs_calls.proofs.Inodes.{is_inode, kind_is, no_inode}
use Rattle.nfs_calls.proofs.NewPlans.{again_fails, again_none, again_refused, again_sets, handed_on}
use Rattle.nfs_calls.proofs.updates.create.create_again.Goals as goal

pub returns-in_default-clause-plan : goal.returns-in_default-clause-plan
returns-in_default-clause-plan g c t told totals =
    let a = c.args in
    again_none t.cells t.tree a.cred a.number a.attr.now a.now
    (no_inode t.tree a.number (sym c.in_default.is ∙ c.in_ok-inode.ensures.inode t told))

pub returns-in_err-refuse-clause-plan : goal.returns-in_err-refuse-clause-plan
returns-in_err-refuse-clause-plan g c t told totals =
    let a = c.args in
    let i = c.in-Some.inode in
    let is : IsInode t.tree a.number i =
    is_inode t.tree a.number i (sym c.in-Some.is ∙ c.in_ok-inode.ensures.inode t told) in
    let regular =
    c.is_regular.ensures (object_at t.tree a.number).body (kind_is t.tree a.number i is) in
    let h = c.from_residual-in_err-refuse.ensures in
    handed_on plan_view _ (error.Status c.in_err-refuse.field-0.0) _ h.0 h.1
    (again_refused t.cells t.tree a.cred a.number i a.attr.now a.now is c.in_err-refuse.field-0.0
    (c.in_err-refuse.ensures ∙ ap (λ (b : _). refuse Exist (not b)) regular))

pub returns-in_err-set-clause-plan : goal.returns-in_err-set-clause-plan
returns-in_err-set-clause-plan g c t told totals =
    let a = c.args in
    let i = c.in-Some.inode in
    let is : IsInode t.tree a.number i =
    is_inode t.tree a.number i (sym c.in-Some.is ∙ c.in_ok-inode.ensures.inode t told) in
    let regular =
    c.is_regular.ensures (object_at t.tree a.number).body (kind_is t.tree a.number i is) in
    let h = c.from_residual-in_err-set.ensures in
    let e = c.in_err-set.field-0.0 in
    let fails = c.in_err-set.ensures.step t (c.inode_at.ensures.kept ∙ told) totals is in
    handed_on plan_view _ e _ h.0 h.1
    (again_fails t.cells t.tree a.cred a.number i a.attr.now a.now is e
    (c.in_ok-refuse.ensures ∙ ap (λ (b : _). refuse Exist (not b)) regular)
    (subst (λ (x : SetAttr). Fails e
    (set_fields t.tree a.cred a.number x a.now)) c.heeded-heeded.ensures.value fails))

pub returns-clause-plan : goal.returns-clause-plan
returns-clause-plan g c t told totals =
    let a = c.args in
    let i = c.in-Some.inode in
    let is : IsInode t.tree a.number i =
    is_inode t.tree a.number i (sym c.in-Some.is ∙ c.in_ok-inode.ensures.inode t told) in
    let regular =
    c.is_regular.ensures (object_at t.tree a.number).body (kind_is t.tree a.number i is) in
    let later = c.inode_at.ensures.kept ∙ told in
    let heeds = c.heeded-heeded.ensures.value in
    let x = c.heeded-heeded.result in
    let new = set_tree t.tree a.number x a.now in
    let done : set_fields t.tree a.cred a.number x a.now ≡ Ok new =
    c.in_ok-set.ensures.step t later totals is in
    again_sets t.cells t.tree a.cred a.number i a.attr.now a.now is new x.size c.in_ok-set.set
    c.attr_by.result
    (c.in_ok-refuse.ensures ∙ ap (λ (b : _). refuse Exist (not b)) regular)
    (subst (λ (y : SetAttr). set_fields t.tree a.cred a.number y a.now ≡ Ok new) heeds done)
    c.heeded-heeded.ensures.size (c.in_ok-set.ensures.set t later totals is) c.attr_by.ensures
