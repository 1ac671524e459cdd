use Rattle.std.proofs.Common.{◌≡◌, ◌+◌, ◌∙◌, Ok, arith, ap, refl, subst, sym}
use Rattle.harp_base.specs.declared.field.Misread.{Misread}
use Rattle.harp_base.specs.Fields.{Fails, Read}
use Rattle.harp_cells.specs.ValueBytes.{longest_old_record}
use Rattle.event_record.specs.declared.record.RecordFields.{RecordFields}
use Rattle.event_record.specs.Bytes.{old_item_at, old_fields_at}
use Rattle.event_record.proofs.RecordLaws.{is_old_record, limited_fails, limited_gives, ok_record, old_is_short, old_item_codec}
use Rattle.event_record.proofs.reading.old_item_at.Goals as goal

-- what was read of the bytes before the limit is the record there
is_read : (c : goal.In-Ok) → old_item_at c.args.bytes.now c.args.at ≡ Ok (c.in-Ok.fields.value, c.in-Ok.next)
is_read c = limited_gives longest_old_record old_fields_at c.args.bytes.now c.front.result.now
    c.args.at (c.args.at + longest_old_record) (c.in-Ok.fields.value, c.in-Ok.next) refl c.front.ensures
    (sym (is_old_record c.front.result.now c.args.at) ∙ c.in-Ok.ensures.step)

pub new-requires : goal.new-requires
new-requires c =
    old_is_short c.in-Ok.fields.value
    (old_item_codec.takes c.args.bytes.now c.args.at (c.in-Ok.fields.value, c.in-Ok.next)
    (λ i. omega (arith, c.type_inv.bytes i)) (is_read c)).1.1

pub returns-in-Ok : goal.returns-in-Ok
returns-in-Ok c =
    limited_gives longest_old_record old_fields_at c.args.bytes.now c.front.result.now
    c.args.at (c.args.at + longest_old_record) (c.in-Ok.fields.value, c.in-Ok.next) refl c.front.ensures
    (sym (is_old_record c.front.result.now c.args.at) ∙ c.in-Ok.ensures.step)
    ∙ ap (λ (r : RecordFields). ok_record r c.in-Ok.next) (sym c.new.ensures)

pub returns-in-Err : goal.returns-in-Err
returns-in-Err c =
    subst (λ (m : Misread). Fails m (old_item_at c.args.bytes.now c.args.at)) (sym c.within.ensures)
    (limited_fails longest_old_record old_fields_at c.args.bytes.now c.front.result.now c.args.at
    (c.args.at + longest_old_record) c.in-Err.misread refl c.front.ensures
    (subst (λ (read : Read RecordFields). Fails c.in-Err.misread read)
    (is_old_record c.front.result.now c.args.at) c.in-Err.ensures.step))
