use Rattle.std.proofs.Common.{◌∙◌}
use Rattle.tree_listing.proofs.Objects.{none_listed, some_listed}
use Rattle.tree_listing.proofs.tree.list_object.Goals as goal

pub returns-in_default-clause-object : goal.returns-in_default-clause-object
returns-in_default-clause-object g c t told =
    none_listed t.tree c.args.number c.args.objects.now c.in_ok-inode.field-0 c.in_default.is
    (c.in_ok-inode.ensures.inode t told)

pub returns-clause-object : goal.returns-clause-object
returns-clause-object g c t told =
    some_listed t.tree c.args.number c.args.objects.now c.push.new.self c.in_ok-object.object
    c.in_ok-inode.field-0 c.in-Some.inode c.in-Some.is (c.in_ok-inode.ensures.inode t told)
    (λ o at is. c.in_ok-object.ensures.object t o (c.inode_at.ensures.kept ∙ told) at is)
    c.in_ok-push.ensures.ok
