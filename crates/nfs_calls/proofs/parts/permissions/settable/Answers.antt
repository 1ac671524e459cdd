use Rattle.std.proofs.Common.{Bool, not, ap, ◌∙◌}
use Rattle.harp_types.specs.declared.reply.Status.TheVariants.{Perm}
use Rattle.file_tree.specs.Tries.{refuse}
use Rattle.file_tree.specs.Permissions.{may_set}
use Rattle.harp_cells.specs.declared.value.Inode.{Inode}
use Rattle.nfs_calls.proofs.parts.permissions.settable.Goals as goal

pub returns : goal.returns
returns c tree number is =
    c.refuse.ensures
    ∙ ap (λ (b : Bool). refuse Perm (not b))
    (c.may_set.ensures ∙ ap (λ (j : Inode). may_set c.args.cred c.args.attr.now j.uid j.gid)
    is.is)
