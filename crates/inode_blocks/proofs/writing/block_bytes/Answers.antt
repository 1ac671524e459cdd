use Rattle.std.proofs.Common.{arith, ◌∙◌}
use Rattle.inode_blocks.proofs.Places.{whole_written}
use Rattle.inode_blocks.proofs.PutLaws.{past_written, stored_in_fits}
use Rattle.inode_blocks.proofs.writing.block_bytes.Goals as goal
use Rattle.inode_blocks.proofs.writing.block_bytes.Goals.{then-size-block-via-then-size-block, then-size-block-via-else-size-block+then-bytes}

pub returns-then-size-block-clause-bytes : goal.returns-then-size-block-clause-bytes
returns-then-size-block-clause-bytes g c held told =
    c.in_ok-written.ensures.value
    ∙ (elim c.then-size-block.branch [
      | then-size-block-via-then-size-block w ↦
          past_written held c.args.object c.args.size c.args.block c.args.within c.args.bytes.now
          (omega arith)
      | then-size-block-via-else-size-block+then-bytes w ↦
          whole_written _ c.args.within c.args.bytes.now
          (stored_in_fits held c.args.object c.args.size c.args.block)
          (omega arith) (omega arith)
    ])
