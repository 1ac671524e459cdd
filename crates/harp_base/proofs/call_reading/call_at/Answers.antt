use Rattle.std.proofs.Common.{arith}
use Rattle.harp_base.specs.Calls.{call_at, call_bytes, CallFits}
use Rattle.harp_base.proofs.ReadLaws.{is_within}
use Rattle.harp_base.proofs.CallLaws.{call_codec}
use Rattle.harp_base.proofs.call_reading.call_at.Goals as goal

pub returns-clause-within : goal.returns-clause-within
unfolding call_at
returns-clause-within c =
    is_within call_at call_bytes CallFits call_codec c.args.bytes.now c.args.at c.fields_at.result
    (λ i. omega (arith, c.type_inv.bytes i)) c.requires
    (rw (← c.in_ok-procedure.ensures.step) c.fields_at.ensures)
