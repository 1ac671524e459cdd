use Rattle.std.proofs.Common.{◌∙◌}
use Rattle.tree_listing.proofs.Objects.{text_read}
use Rattle.tree_listing.proofs.tree.link_text.Goals as goal

pub returns-in_ok-text-in-Link-clause-text : goal.returns-in_ok-text-in-Link-clause-text
returns-in_ok-text-in-Link-clause-text g c t o told at is =
    text_read t c.args.number o c.args.inode.now c.new.result at is c.in-Link.is
    (λ bytes holds long. c.new.ensures ∙ c.into_vec.ensures
    ∙ c.in_ok-text-in-Link.ensures.range t.cells bytes told holds long)
