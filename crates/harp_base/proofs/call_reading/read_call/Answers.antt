use Rattle.std.proofs.Common.{arith}
use Rattle.harp_base.specs.Calls.{call_at, call_bytes, CallFits}
use Rattle.harp_base.proofs.ReadLaws.{front_found, front_only, front_exact}
use Rattle.harp_base.proofs.CallLaws.{call_codec}
use Rattle.harp_base.proofs.call_reading.read_call.Goals as goal

pub returns : goal.returns
returns c = record {
  found = front_found call_at call_bytes CallFits call_codec c.args.bytes.now c.call_at.result
      c.told.result (λ i. omega (arith, c.type_inv.bytes i)) c.call_at.ensures.step c.told.ensures;
  only = front_only call_at call_bytes CallFits call_codec c.args.bytes.now c.call_at.result
      c.told.result c.call_at.ensures.step c.told.ensures;
  exact = front_exact call_at c.args.bytes.now c.call_at.result c.told.result
      c.call_at.ensures.step c.told.ensures;
}
