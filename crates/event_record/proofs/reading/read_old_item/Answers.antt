use Rattle.std.proofs.Common.{arith}
use Rattle.harp_base.proofs.ReadLaws.{front_found, front_only, front_exact}
use Rattle.event_record.specs.Bytes.{old_item_at, old_record_bytes, OldRecordFits}
use Rattle.event_record.proofs.RecordLaws.{old_item_codec}
use Rattle.event_record.proofs.reading.read_old_item.Goals as goal

pub returns : goal.returns
returns c = record {
  found = front_found old_item_at old_record_bytes OldRecordFits old_item_codec c.args.bytes.now c.old_item_at.result
      c.told.result (λ i. omega (arith, c.type_inv.bytes i)) c.old_item_at.ensures c.told.ensures;
  only = front_only old_item_at old_record_bytes OldRecordFits old_item_codec c.args.bytes.now c.old_item_at.result
      c.told.result c.old_item_at.ensures c.told.ensures;
  exact = front_exact old_item_at c.args.bytes.now c.old_item_at.result c.told.result
      c.old_item_at.ensures c.told.ensures;
}
