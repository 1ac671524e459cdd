use Rattle.std.proofs.Common.{◌+◌, sym, subst}
use Rattle.audit.specs.Pictures.{AreInOrder}
use Rattle.audit.proofs.Shape.{none_more, one_more}
use Rattle.audit.proofs.gathering.gather_at.Goals as goal

pub returns-in-None-clause-order : goal.returns-in-None-clause-order
returns-in-None-clause-order g c = λ from order.
    none_more 1 c.args.number c.args.objects.now order

pub returns-in_ok-push-in-Some-clause-order : goal.returns-in_ok-push-in-Some-clause-order
returns-in_ok-push-in-Some-clause-order g c = λ from order.
    let form = c.in_ok-portrait-in-Some.ensures.form c.in-Some.ensures.form in
    subst (AreInOrder 1 (c.args.number + 1)) (sym c.in_ok-push-in-Some.ensures.ok)
    (one_more 1 c.args.number c.args.objects.now c.in_ok-portrait-in-Some.portrait order from
    form.0 form.1)
