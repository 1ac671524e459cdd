use Rattle.std.proofs.Common.{◌≡◌, ◌+◌, ◌∙◌, Ok, arith, ap, refl, subst, sym}
use Rattle.harp_base.specs.declared.field.Misread.{Misread}
use Rattle.harp_base.specs.Fields.{Fails, Read}
use Rattle.harp_cells.specs.ValueBytes.{longest_record}
use Rattle.event_record.specs.declared.record.RecordFields.{RecordFields}
use Rattle.event_record.specs.Bytes.{item_at, record_fields_at}
use Rattle.event_record.proofs.RecordLaws.{item_codec, is_record, limited_fails, limited_gives, ok_record}
use Rattle.event_record.proofs.reading.item_at.Goals as goal

-- what was read of the bytes before the limit is the record there
is_read : (c : goal.In-Ok) → item_at c.args.bytes.now c.args.at ≡ Ok (c.in-Ok.fields.value, c.in-Ok.next)
is_read c = limited_gives longest_record record_fields_at c.args.bytes.now c.front.result.now
    c.args.at (c.args.at + longest_record) (c.in-Ok.fields.value, c.in-Ok.next) refl c.front.ensures
    (sym (is_record c.front.result.now c.args.at) ∙ c.in-Ok.ensures.step)

pub new-requires : goal.new-requires
new-requires c =
    (item_codec.takes c.args.bytes.now c.args.at (c.in-Ok.fields.value, c.in-Ok.next)
    (λ i. omega (arith, c.type_inv.bytes i)) (is_read c)).1.1

pub returns-in-Ok-clause-step : goal.returns-in-Ok-clause-step
returns-in-Ok-clause-step c =
    limited_gives longest_record record_fields_at c.args.bytes.now c.front.result.now
    c.args.at (c.args.at + longest_record) (c.in-Ok.fields.value, c.in-Ok.next) refl c.front.ensures
    (sym (is_record c.front.result.now c.args.at) ∙ c.in-Ok.ensures.step)
    ∙ ap (λ (r : RecordFields). ok_record r c.in-Ok.next) (sym c.new.ensures)

pub returns-in-Err-clause-step : goal.returns-in-Err-clause-step
returns-in-Err-clause-step c =
    subst (λ (m : Misread). Fails m (item_at c.args.bytes.now c.args.at)) (sym c.within.ensures)
    (limited_fails longest_record record_fields_at c.args.bytes.now c.front.result.now c.args.at
    (c.args.at + longest_record) c.in-Err.misread refl c.front.ensures
    (subst (λ (read : Read RecordFields). Fails c.in-Err.misread read)
    (is_record c.front.result.now c.args.at) c.in-Err.ensures.step))
