use Rattle.std.proofs.Common.{◌≡◌, Some, sym, ap, ◌∙◌}
use Rattle.trace_check.specs.Marks.{mark_at, marks_of}
use Rattle.trace_check.proofs.MarkLemmas.{at_first, at_key, at_others}
use Rattle.trace_check.proofs.marks.Marks.get.Goals as goal

pub returns-then-eq : goal.returns-then-eq
returns-then-eq c =
    let others = c.self.inside.others.entries in
    let i = c.in-Some.is in
    let a = c.in-Some.at-is in
    let n = c.in-Some.number-is in
    let last : c.self.inside.last ≡ Some (c.in-Some.at, c.in-Some.number) = cc in
    at_first c.args.key c.in-Some.at c.in-Some.number others (sym c.eq.ensures ∙ c.if-eq.true)
    ∙ ap (λ marks. mark_at marks c.args.key)
    (sym (ap (λ o. marks_of o others) last) ∙ c.self.view_is)

pub returns-else-eq : goal.returns-else-eq
returns-else-eq c =
    let others = c.self.inside.others.entries in
    let i = c.in-Some.is in
    let a = c.in-Some.at-is in
    let n = c.in-Some.number-is in
    let last : c.self.inside.last ≡ Some (c.in-Some.at, c.in-Some.number) = cc in
    c.copied.ensures ∙ c.get.ensures.value ∙ at_key others c.args.key
    ∙ at_others c.args.key c.in-Some.at c.in-Some.number others
    (sym c.eq.ensures ∙ c.if-eq.false)
    ∙ ap (λ marks. mark_at marks c.args.key)
    (sym (ap (λ o. marks_of o others) last) ∙ c.self.view_is)

pub returns-in-None : goal.returns-in-None
returns-in-None c =
    let others = c.self.inside.others.entries in
    c.copied-in-None.ensures ∙ c.get-in-None.ensures.value ∙ at_key others c.args.key
    ∙ ap (λ marks. mark_at marks c.args.key)
    (sym (ap (λ o. marks_of o others) c.in-None.is) ∙ c.self.view_is)
