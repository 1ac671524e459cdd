use Rattle.std.proofs.Common.{arith}
use Rattle.harp_base.proofs.ReadLaws.{front_found, front_only, front_exact}
use Rattle.event_record.specs.Bytes.{item_at, record_bytes, RecordFits}
use Rattle.event_record.proofs.RecordLaws.{item_codec}
use Rattle.event_record.proofs.reading.read_item.Goals as goal

pub returns : goal.returns
returns c = record {
  found = front_found item_at record_bytes RecordFits item_codec c.args.bytes.now c.item_at.result
      c.told.result (λ i. omega (arith, c.type_inv.bytes i)) c.item_at.ensures.step c.told.ensures;
  only = front_only item_at record_bytes RecordFits item_codec c.args.bytes.now c.item_at.result
      c.told.result c.item_at.ensures.step c.told.ensures;
  exact = front_exact item_at c.args.bytes.now c.item_at.result c.told.result
      c.item_at.ensures.step c.told.ensures;
}
