use Rattle.std.proofs.Common.{arith}
use Rattle.harp_base.specs.Replies.{reply_at, reply_bytes, ReplyFits}
use Rattle.harp_base.proofs.ReadLaws.{front_found, front_only, front_exact}
use Rattle.harp_base.proofs.ReplyLaws.{reply_codec}
use Rattle.harp_base.proofs.reply_reading.read_reply.Goals as goal

pub returns : goal.returns
returns c = record {
  found = front_found reply_at reply_bytes ReplyFits reply_codec c.args.bytes.now c.reply_at.result
      c.told.result (λ i. omega (arith, c.type_inv.bytes i)) c.reply_at.ensures.step c.told.ensures;
  only = front_only reply_at reply_bytes ReplyFits reply_codec c.args.bytes.now c.reply_at.result
      c.told.result c.reply_at.ensures.step c.told.ensures;
  exact = front_exact reply_at c.args.bytes.now c.reply_at.result c.told.result
      c.reply_at.ensures.step c.told.ensures;
}
