use Rattle.std.proofs.Common.{◌∙◌}
use Rattle.file_tree.specs.Tree.{slots_within}
use Rattle.tree_listing.proofs.Objects.{listed_by, slots_told}
use Rattle.tree_listing.proofs.tree.list_parts.Goals as goal

pub returns-clause-object : goal.returns-clause-object
returns-clause-object g c t o told at is =
    let first = slots_told t _ c.args.number o c.args.inode.now told at is in
    let then = c.list_slots.ensures.kept ∙ told in
    listed_by t.tree c.args.number o c.args.inode.now c.attr_by.result c.in_ok-slots.slots
    c.in_ok-blocks.blocks c.in_ok-text.text is c.attr_by.ensures
    (c.in_ok-slots.ensures.slots (slots_within o.body) first)
    (c.in_ok-blocks.ensures.blocks t o then at is)
    (c.in_ok-text.ensures.text t o (c.file_blocks.ensures.kept ∙ then) at is)
