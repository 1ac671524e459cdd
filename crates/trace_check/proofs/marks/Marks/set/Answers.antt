use Rattle.std.proofs.Common.{◌≡◌, ◌∷◌, Some, sym, ap, subst, ◌∙◌}
use Rattle.trace_check.specs.Marks.{marks_of, IsSet}
use Rattle.trace_check.proofs.MarkLemmas.{first_again, first_mark, first_moved, is_set}
use Rattle.trace_check.proofs.marks.Marks.set.Goals as goal

pub returns-then-eq : goal.returns-then-eq
returns-then-eq c =
    let others = c.self.inside.others.entries in
    let i = c.in-Some.is in
    let a = c.in-Some.at-is in
    let n = c.in-Some.before-is in
    let last : c.self.inside.last ≡ Some (c.in-Some.at, c.in-Some.before) = cc in
    subst (λ old. IsSet c.args.key c.args.number old ((c.args.key, c.args.number) ∷ others))
    (sym (ap (λ o. marks_of o others) last) ∙ c.self.view_is)
    (first_again c.args.key c.in-Some.at c.args.number c.in-Some.before others
    (sym c.eq.ensures ∙ c.if-eq.true))

pub returns-in_ok-insert-in-Some : goal.returns-in_ok-insert-in-Some
returns-in_ok-insert-in-Some c =
    let others = c.self.inside.others.entries in
    let new = c.insert.new.self.entries in
    let i = c.in-Some.is in
    let a = c.in-Some.at-is in
    let n = c.in-Some.before-is in
    let last : c.self.inside.last ≡ Some (c.in-Some.at, c.in-Some.before) = cc in
    subst (λ old. IsSet c.args.key c.args.number old ((c.args.key, c.args.number) ∷ new))
    (sym (ap (λ o. marks_of o others) last) ∙ c.self.view_is)
    (first_moved c.args.key c.in-Some.at c.args.number c.in-Some.before others new
    (is_set others new c.in-Some.at c.in-Some.before
    c.in_ok-insert-in-Some.ensures.updates.0))

pub returns-in-None : goal.returns-in-None
returns-in-None c =
    let others = c.self.inside.others.entries in
    subst (λ old. IsSet c.args.key c.args.number old ((c.args.key, c.args.number) ∷ others))
    (sym (ap (λ o. marks_of o others) c.in-None.is) ∙ c.self.view_is)
    (first_mark c.args.key c.args.number others)
