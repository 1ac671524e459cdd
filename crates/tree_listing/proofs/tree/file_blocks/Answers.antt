use Rattle.std.proofs.Common.{◌∙◌}
use Rattle.tree_listing.specs.Listing.{bytes_of_file}
use Rattle.tree_listing.proofs.Objects.{directory_has_none, file_held, link_has_none}
use Rattle.tree_listing.proofs.tree.file_blocks.Goals as goal

pub returns-in-Regular-clause-blocks : goal.returns-in-Regular-clause-blocks
returns-in-Regular-clause-blocks g c t o told at is =
    let held = file_held t c.args.number o c.args.inode.now at is c.in-Regular.is in
    c.list_blocks.ensures.blocks t.cells (bytes_of_file o.body) told held.0 held.1

pub returns-in-Directory-clause-blocks : goal.returns-in-Directory-clause-blocks
returns-in-Directory-clause-blocks g c t o told at is =
    c.new.ensures ∙ directory_has_none t.tree c.args.number o c.args.inode.now is c.in-Directory.is

pub returns-in-Link-clause-blocks : goal.returns-in-Link-clause-blocks
returns-in-Link-clause-blocks g c t o told at is =
    c.new-in-Link.ensures ∙ link_has_none t.tree c.args.number o c.args.inode.now is c.in-Link.is
