use Rattle.std.proofs.Common.{◌≡◌, Result, arith, sym, subst}
use Rattle.std.specs.Prelude.{IfOk, Ok}
use Rattle.wire.specs.declared.message.Message.{Message}
use Rattle.wire.specs.declared.decoding.DecodeFault.{DecodeFault}
use Rattle.wire.specs.Messages.{message_bytes, MessageFits, message_at, decoded, Decodes}
use Rattle.wire.proofs.DecodeLaws.{whole_found, whole_only, whole_exact}
use Rattle.wire.proofs.decoding.decode.Goals as goal

pub returns : goal.returns
returns c = record {
  found = subst (λ (y : Result Message DecodeFault). IfOk y
      (λ m. (c.args.bytes.now ≡ message_bytes m) × MessageFits m)) (sym c.whole.ensures)
      (whole_found c.args.bytes.now c.message_at.result
      (λ i. omega (arith, c.type_inv.bytes i)) c.message_at.ensures);
  only = λ m fits e.
      subst (λ (y : Result Message DecodeFault). Decodes y (Ok m)) (sym c.whole.ensures)
      (whole_only c.args.bytes.now c.message_at.result c.message_at.ensures m fits e);
  exact = subst (λ (y : Result Message DecodeFault). Decodes y (decoded c.args.bytes.now))
      (sym c.whole.ensures)
      (whole_exact _ c.message_at.result (message_at c.args.bytes.now 0) c.message_at.ensures);
}
