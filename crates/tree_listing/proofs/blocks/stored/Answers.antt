use Rattle.std.proofs.Common.{rules}
use Rattle.tree_listing.proofs.BlocksRead.{stored_block}
use Rattle.tree_listing.proofs.blocks.stored.Goals as goal

pub returns-in-Some-Block : goal.returns-in-Some-Block
returns-in-Some-Block c = stored_block _ _ _ (search rules) c.as_slice.ensures.value
    c.as_slice.ensures.most
