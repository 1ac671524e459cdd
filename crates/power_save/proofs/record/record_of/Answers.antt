use Rattle.std.proofs.Common.{rules, ◌≡◌, sym, ap, subst, ◌∙◌, Option}
use Rattle.std.specs.Prelude.{IfSome}
use Rattle.event_record.specs.declared.record.RecordFields.{RecordFields}
use Rattle.power_save.specs.Saved.{HasRecord}
use Rattle.power_save.proofs.Values.{one_record}
use Rattle.power_save.proofs.record.record_of.Goals as goal

pub returns-else-get-index-clause-none : goal.returns-else-get-index-clause-none
returns-else-get-index-clause-none c = λ e r has its.
    let found : HasRecord c.args.value.now c.in-Some.record = subst (λ
    (item : Option RecordFields). IfSome item (λ r. HasRecord c.args.value.now r)) c.in-Some.is
    c.in_ok-record.ensures.found in
    let same : r ≡ c.in-Some.record = one_record c.args.value.now r c.in-Some.record has found in
    let get : c.get.result ≡ c.in-Some.record.index = search rules in
    c.if-get-index.false (get ∙ sym (ap (λ (x : RecordFields). x.index) same) ∙ its)
