use Rattle.std.proofs.Common.{rules, sym}
use Rattle.tree_listing.proofs.BlocksRead.{block_kept, block_skipped}
use Rattle.tree_listing.proofs.blocks.block_with.Goals as goal

pub returns-then-is_zeros : goal.returns-then-is_zeros
returns-then-is_zeros c =
    block_skipped c.args.block c.args.count c.args.stored.now c.front-stored.result.now
    c.front-stored.ensures.value (sym c.if-is_zeros.ensures)

pub returns : goal.returns
returns c =
    block_kept c.args.block c.args.count c.args.stored.now c.front-stored.result.now c.new.result
    c.front-stored.ensures.value (sym c.if-is_zeros.ensures)
    (search (rules, c.new.ensures, c.in_ok-resize.ensures.items, c.in_ok-bytes.ensures.items))
