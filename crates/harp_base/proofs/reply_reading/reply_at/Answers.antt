use Rattle.std.proofs.Common.{arith}
use Rattle.harp_base.specs.Replies.{reply_at, reply_bytes, ReplyFits}
use Rattle.harp_base.proofs.ReadLaws.{is_within}
use Rattle.harp_base.proofs.ReplyLaws.{reply_codec}
use Rattle.harp_base.proofs.reply_reading.reply_at.Goals as goal

pub returns-clause-within : goal.returns-clause-within
unfolding reply_at
returns-clause-within c =
    is_within reply_at reply_bytes ReplyFits reply_codec c.args.bytes.now c.args.at
    c.fields_at.result (λ i. omega (arith, c.type_inv.bytes i)) c.requires
    (rw (← c.in_ok-form.ensures.step) c.fields_at.ensures)
