use Rattle.std.proofs.Common.{Bool, not, sym, ap, ◌∙◌}
use Rattle.harp_types.specs.declared.reply.Status.TheVariants.{Acces}
use Rattle.file_tree.specs.Tries.{refuse}
use Rattle.nfs_calls.proofs.Inodes.{may_stored}
use Rattle.nfs_calls.proofs.parts.permissions.allowed.Goals as goal

pub returns : goal.returns
returns c tree number is =
    c.refuse.ensures
    ∙ ap (λ (b : Bool). refuse Acces (not b))
    (c.may.ensures ∙ sym (may_stored tree c.args.cred number c.args.want c.args.inode.now is))
