use Rattle.std.proofs.Common.{◌/◌, ◌%◌, arith, ◌∙◌}
use Rattle.inode_blocks.proofs.Steps.{read_more}
use Rattle.inode_blocks.proofs.reading.read_bytes.Goals as goal

pub loop-at-preserved : goal.loop-at-preserved
loop-at-preserved g c = record {
  from = omega arith;
  to = omega arith;
  size = omega (arith, c.in_ok-read_part.ensures.size);
  range = λ held old told holds is. read_more held c.args.object old c.args.offset c.loop-at.at
      (c.loop-at.at % 4096) (c.loop-at.at / 4096) c.min-count.result
      c.loop-at.bytes.items c.read_part.new.bytes.items holds (omega arith) (omega arith)
      (omega arith)
      (omega arith) (omega arith)
      (c.loop-at.invariant.range held old told holds is)
      (c.in_ok-read_part.ensures.part held (c.loop-at.invariant.kept ∙ told));
  kept = c.in_ok-read_part.ensures.kept ∙ c.loop-at.invariant.kept;
  left = c.in_ok-read_part.ensures.left ∙ c.loop-at.invariant.left;
  count = omega (arith, c.in_ok-read_part.ensures.count);
}
