use Rattle.std.proofs.Common.{None, Option, Some, sym, ap, ◌∙◌}
use Rattle.trace_check.specs.UnderWay.{entry_told, reading_told}
use Rattle.trace_check.specs.declared.under_way.Reading.{Reading}
use Rattle.trace_check.proofs.UnderWayLemmas.{begins, goes_on, nothing_told}
use Rattle.trace_check.proofs.under_way.UnderWay.take.Goals as goal

pub returns-in_ok-self-in-Event : goal.returns-in_ok-self-in-Event
returns-in_ok-self-in-Event c before a =
    begins before c.args.line.now c.in_ok-self-in-Event.field-0 None
    (ap reading_told c.in-Event.is
    ∙ ap (λ (r : Option Reading). Some r) (sym c.in_ok-self-in-Event.ensures))
    (sym (ap entry_told c.in-Event.is))

pub returns-in_default : goal.returns-in_default
returns-in_default c before a =
    let l = c.args.line.now in
    let told = nothing_told l c.in_default.not-Event c.in_default.not-Entered in
    goes_on c.args.self.now before l None a told.0 (λ reads. sym told.1)
