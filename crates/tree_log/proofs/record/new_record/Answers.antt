use Rattle.std.proofs.Common.{◌∙◌, refl}
use Rattle.tree_log.proofs.Plans.{book_cells, record_is}
use Rattle.tree_log.proofs.Sizes.{planned_short}
use Rattle.tree_log.proofs.record.new_record.Goals as goal

pub short_record-requires : goal.short_record-requires
short_record-requires g c short =
    let a = c.args in
    let p = c.in_ok-plan in
    planned_short c.in_ok-fields.fields.value
    (rw c.in_ok-fields.ensures (record {
      update = c.requires;
      form = p.ensures.form;
      tree = p.plan.changes.items;
      short = p.ensures.short;
      totals = p.ensures.totals;
      changes = refl;
    })) short

pub returns-clause-record : goal.returns-clause-record
returns-clause-record g c entries held updates cells alike =
    let a = c.args in
    let p = c.in_ok-plan in
    let t = book_cells entries held updates alike in
    record_is a.stamped a.index a.client a.number a.cred a.call.now a.stamp entries held
    p.plan.reply p.plan.changes.items alike (p.ensures.reply t cells)
    (p.ensures.changes t cells) c.short_record.result
    (c.short_record.ensures.value ∙ c.in_ok-fields.ensures)
