use Rattle.std.proofs.Common.{sym, ap, ◌∙◌, ◌++◌, List, Vec, Global}
use Rattle.std.proofs.lemmas.List.{append-nil}
use Rattle.audit.specs.declared.flaw.Finding.{Finding}
use Rattle.audit.proofs.Steps.{flat_done, flat_more}
use Rattle.audit.proofs.auditing.add_findings.Goals as goal

pub loop-part-init : goal.loop-part-init
loop-part-init c = sym (append-nil c.args.found.now.items)

pub loop-part-preserved : goal.loop-part-preserved
loop-part-preserved c =
    flat_more (λ (part : Vec Finding Global). part.items) c.args.found.now.items
    c.loop-part.found.items c.extend_from_slice.new.self.items c.args.parts.now
    c.loop-part.part-index c.part-item.result c.loop-part-test.true c.part-item.is
    c.loop-part.invariant
    (c.in_ok-extend_from_slice.ensures.items
    ∙ ap (λ (l : List Finding). c.loop-part.found.items ++ l) c.as_slice.ensures.value)

pub returns : goal.returns
returns c =
    flat_done (λ (part : Vec Finding Global). part.items) c.args.found.now.items
    c.loop-part.found.items c.args.parts.now c.loop-part.part-index c.loop-part-test.false
    c.loop-part.invariant
