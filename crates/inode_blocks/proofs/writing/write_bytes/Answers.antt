use Rattle.std.proofs.Common.{◌-◌, ◌++◌, ◌/◌, length, map, Some, arith, refl, ap, ◌∙◌}
use Rattle.std.specs.List.{range_with_len}
use Rattle.std.proofs.lemmas.List.{map_push}
use Rattle.inode_blocks.specs.Changes.{block_put, block_written, put, puts}
use Rattle.inode_blocks.proofs.PutLaws.{met_none, puts_lead}
use Rattle.inode_blocks.proofs.Steps.{put_more, begins_more, block_is, met_is, lead_by, nothing_added}
use Rattle.inode_blocks.proofs.writing.write_bytes.Goals as goal

pub loop-block-preserved : goal.loop-block-preserved
loop-block-preserved g c = record {
  puts = λ held told. put_more
      (λ block. put c.args.object block
      (block_written held c.args.object c.args.size c.args.offset c.args.bytes.now block))
      c.args.changes.now.items c.loop-block.changes.items c.append_put.new.changes.items
      (c.args.offset / 4096)
      c.loop-block.block (put c.args.object c.loop-block.block c.in_ok-new.new.items)
      (c.loop-block.invariant.puts held told) (omega arith)
      (ap (λ xs. put c.args.object c.loop-block.block xs)
      (block_is held c.args.object c.args.size c.args.offset c.args.bytes.now c.loop-block.block
      c.saturating_sub-within.result c.part_in-part.result.now c.in_ok-new.new.items
      (omega arith) c.part_in-part.ensures.value
      (c.in_ok-new.ensures.bytes held (c.loop-block.invariant.kept ∙ told))))
      c.in_ok-append_put.ensures.ok;
  blocks = put_more (λ block. Some (c.args.object, block))
      (map block_put c.args.changes.now.items) (map block_put c.loop-block.changes.items)
      (map block_put c.append_put.new.changes.items) (c.args.offset / 4096) c.loop-block.block
      (Some (c.args.object, c.loop-block.block)) c.loop-block.invariant.blocks (omega arith) refl
      (ap (λ xs. map block_put xs) c.in_ok-append_put.ensures.ok
      ∙ map_push block_put c.loop-block.changes.items
      (put c.args.object c.loop-block.block c.in_ok-new.new.items));
  front = begins_more c.args.changes.now.items c.loop-block.changes.items _
      c.append_put.new.changes.items
      c.loop-block.invariant.front c.in_ok-append_put.ensures.ok;
  kept = c.in_ok-new.ensures.kept ∙ c.loop-block.invariant.kept;
  left = c.in_ok-new.ensures.left ∙ c.loop-block.invariant.left;
  count = omega (arith, c.in_ok-new.ensures.count);
}

pub returns-clause-puts : goal.returns-clause-puts
returns-clause-puts g c held told =
    c.loop-block.invariant.puts held told
    ∙ ap (λ n. c.args.changes.now.items ++ map
    (λ block. put c.args.object block
    (block_written held c.args.object c.args.size c.args.offset c.args.bytes.now block))
    (range_with_len (c.args.offset / 4096) n))
    (met_is c.args.offset (length c.args.bytes.now) c.past_block-block-end.result c.loop-block.block
    c.past_block-block-end.ensures (omega arith) c.loop-block.auto.block-end)

pub returns-clause-leads : goal.returns-clause-leads
returns-clause-leads g c held old told holds is =
    lead_by c.args.changes.now.items c.loop-block.changes.items
    (puts held c.args.object c.args.size c.args.offset c.args.bytes.now) held c.args.object
    c.args.size _
    (c.loop-block.invariant.puts held told
    ∙ ap (λ n. c.args.changes.now.items ++ map
    (λ block. put c.args.object block
    (block_written held c.args.object c.args.size c.args.offset c.args.bytes.now block))
    (range_with_len (c.args.offset / 4096) n))
    (met_is c.args.offset (length c.args.bytes.now) c.past_block-block-end.result c.loop-block.block
    c.past_block-block-end.ensures (omega arith) c.loop-block.auto.block-end))
    (puts_lead held c.args.object c.args.size old c.args.offset c.args.bytes.now holds is)

pub returns-clause-blocks : goal.returns-clause-blocks
returns-clause-blocks g c =
    c.loop-block.invariant.blocks
    ∙ ap (λ n. map block_put c.args.changes.now.items ++ map (λ block. Some (c.args.object, block))
    (range_with_len (c.args.offset / 4096) n))
    (met_is c.args.offset (length c.args.bytes.now) c.past_block-block-end.result c.loop-block.block
    c.past_block-block-end.ensures (omega arith) c.loop-block.auto.block-end)

pub returns-clause-nothing : goal.returns-clause-nothing
returns-clause-nothing g c none =
    nothing_added block_put (λ block. Some (c.args.object, block)) c.args.changes.now.items
    c.loop-block.changes.items (c.args.offset / 4096) (c.loop-block.block - c.args.offset / 4096)
    c.loop-block.invariant.blocks
    (met_is c.args.offset (length c.args.bytes.now) c.past_block-block-end.result c.loop-block.block
    c.past_block-block-end.ensures (omega arith) c.loop-block.auto.block-end
    ∙ met_none c.args.offset (length c.args.bytes.now) none)
    c.loop-block.invariant.front
