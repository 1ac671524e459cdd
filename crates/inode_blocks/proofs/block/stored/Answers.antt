use Rattle.std.proofs.Common.{rules}
use Rattle.inode_blocks.proofs.Steps.{stored_block}
use Rattle.inode_blocks.proofs.block.stored.Goals as goal

pub returns-in-Some-Block-clause-value : goal.returns-in-Some-Block-clause-value
returns-in-Some-Block-clause-value c = stored_block _ _ _ (search rules) c.as_slice.ensures.value
    c.as_slice.ensures.most
