use Rattle.std.proofs.Common.{◌∙◌, ap}
use Rattle.volatile_log.proofs.RecordChanges.{changes_at}
use Rattle.event_record.specs.declared.record.RecordFields.{RecordFields as Record}
use Rattle.volatile_log.proofs.changes.ActiveLogChangeLog.changes.Goals as goal

pub returns : goal.returns
returns c = c.as_slice.ensures.value ∙ ap (λ (r : Record). r.changes) c.fields.ensures.value ∙ changes_at c.args.self.now c.args.index c.in-Some.item.now c.requires.from c.in-Some.ensures.value
