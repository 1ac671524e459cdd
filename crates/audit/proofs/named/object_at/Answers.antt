use Rattle.std.proofs.Common.{◌≡◌, get_or, Some, rules, sym, ap, ◌∙◌}
use Rattle.std.proofs.lemmas.List.Sorted.{answers_always}
use Rattle.audit.proofs.Searches.{no_place, place_found}
use Rattle.audit.proofs.named.object_at.Goals as goal

pub returns-in-Ok : goal.returns-in-Ok
returns-in-Ok c = λ order.
    let facts = c.in-Ok.ensures in
    let is = place_found 1 order.0 c.args.objects.now c.args.number c.in-Ok.place order.1
    facts.bound (facts.position (λ x. x.number)
    (answers_always _ _ _ (λ f a r g called. search rules))) in
    let x = c.index-objects-place.result in
    let at : x ≡ get_or c.args.objects.now c.in-Ok.place x = search rules in
    ap Some at ∙ sym (is.1 x)

pub returns-in-Err : goal.returns-in-Err
returns-in-Err c = λ order.
    let facts = c.in-Err.ensures in
    sym (no_place 1 order.0 c.args.objects.now c.args.number c.in-Err.field-0 order.1
    (facts.position (λ x. x.number) (answers_always _ _ _ (λ f a r g called. search rules))))
