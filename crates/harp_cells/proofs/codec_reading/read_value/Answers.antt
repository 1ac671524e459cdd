use Rattle.std.proofs.Common.{arith}
use Rattle.harp_base.proofs.ReadLaws.{front_found, front_only, front_exact}
use Rattle.harp_cells.specs.ValueBytes.{value_at, value_bytes, ValueFits}
use Rattle.harp_cells.proofs.ValueLaws.{value_codec}
use Rattle.harp_cells.proofs.codec_reading.read_value.Goals as goal

pub returns : goal.returns
returns c = record {
  found = front_found value_at value_bytes ValueFits value_codec c.args.bytes.now c.value_at.result
      c.told.result (λ i. omega (arith, c.type_inv.bytes i)) c.value_at.ensures.step c.told.ensures;
  only = front_only value_at value_bytes ValueFits value_codec c.args.bytes.now c.value_at.result
      c.told.result c.value_at.ensures.step c.told.ensures;
  exact = front_exact value_at c.args.bytes.now c.value_at.result c.told.result
      c.value_at.ensures.step c.told.ensures;
}
