use Rattle.std.proofs.Common.{◌≡◌, length, arith, refl, sym, ap, ◌∙◌}
use Rattle.file_tree.specs.Tree.{blocks_of}
use Rattle.harp_cells.specs.CellsOfTree.{block_of}
use Rattle.tree_listing.specs.Listing.{block_listed, blocks_listed}
use Rattle.tree_listing.proofs.Gathering.{grown_by, of_none, whole_at}
use Rattle.tree_listing.proofs.BlocksRead.{block_read}
use Rattle.tree_listing.proofs.blocks.list_blocks.Goals as goal

pub loop-block-init : goal.loop-block-init
loop-block-init g c = record {
  kept = refl;
  left = refl;
  count = omega arith;
  listed = λ held bytes told holds is.
      c.new-listed.ensures ∙ sym (of_none (λ i. block_listed i (block_of bytes i)));
}

pub loop-block-preserved : goal.loop-block-preserved
loop-block-preserved g c = record {
  kept = c.list_block.ensures.kept ∙ c.loop-block.invariant.kept;
  left = c.list_block.ensures.left ∙ c.loop-block.invariant.left;
  count = omega (arith, c.list_block.ensures.count, c.loop-block.invariant.count);
  listed = λ held bytes told holds is.
      let at = c.loop-block.block in
      let read = block_read held c.args.file bytes at c.min-count.result holds
      (omega (arith, is, c.min-count.ensures)) in
      grown_by (λ i. block_listed i (block_of bytes i)) at c.loop-block.listed
      c.list_block.new.listed _ (c.loop-block.invariant.listed held bytes told holds is)
      (ap (block_listed at) read)
      (c.in_ok-list_block.ensures.block held (c.loop-block.invariant.kept ∙ told));
}

pub returns-clause-blocks : goal.returns-clause-blocks
unfolding blocks_listed
returns-clause-blocks g c held bytes told holds is =
    let end : c.loop-block.block ≡ blocks_of (length bytes) =
    omega (arith, is, c.loop-block-test.false, c.loop-block.auto.block-end) in
    whole_at (λ i. block_listed i (block_of bytes i)) c.loop-block.block
    (blocks_of (length bytes)) c.loop-block.listed end
    (c.loop-block.invariant.listed held bytes told holds is)
