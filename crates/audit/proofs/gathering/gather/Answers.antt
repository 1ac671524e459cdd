use Rattle.std.proofs.Common.{List, ◌++◌, sym, subst, ap, ◌∙◌, arith, rules}
use Rattle.audit.specs.declared.picture.Portrait.{Portrait}
use Rattle.audit.specs.Pictures.{AreInOrder, portraits_at}
use Rattle.audit.proofs.Shape.{in_order}
use Rattle.audit.proofs.Steps.{gathered_picture, portraits_more, whole_below}
use Rattle.audit.proofs.gathering.gather.Goals as goal

pub loop-number-init : goal.loop-number-init
loop-number-init g c = record {
  kept = c.in_ok-next.ensures.kept;
  left = c.in_ok-next.ensures.left;
  count = omega (arith, c.in_ok-next.ensures.count);
  order = subst (AreInOrder 1 1) (sym c.new-objects.ensures) tt;
  objects = λ held told. c.new-objects.ensures;
}

pub loop-number-preserved : goal.loop-number-preserved
loop-number-preserved g c = record {
  kept = c.gather_at.ensures.kept ∙ c.loop-number.invariant.kept;
  left = c.gather_at.ensures.left ∙ c.loop-number.invariant.left;
  count = omega (arith, c.gather_at.ensures.count, c.loop-number.invariant.count);
  order = c.in_ok-gather_at.ensures.order c.loop-number.auto.number
      c.loop-number.invariant.order;
  objects = λ held told.
      let at = c.loop-number.number in
      c.in_ok-gather_at.ensures.object held (c.loop-number.invariant.kept ∙ told)
      ∙ ap (λ (xs : List Portrait). xs ++ portraits_at held at)
      (c.loop-number.invariant.objects held told)
      ∙ sym (portraits_more held at c.loop-number.auto.number);
}

pub returns-clause-picture : goal.returns-clause-picture
returns-clause-picture g c held told =
    gathered_picture held c.in_ok-next.next c.in_ok-next.used c.loop-number.objects
    (c.in_ok-next.ensures.totals held told)
    (c.loop-number.invariant.objects held told
    ∙ whole_below held c.loop-number.number c.in_ok-next.next
    (omega (arith, c.max-number-end.ensures, c.loop-number-test.false))
    (omega (arith, c.max-number-end.ensures, c.loop-number.auto.number-end)))

pub returns-clause-shaped : goal.returns-clause-shaped
returns-clause-shaped g c = record {
  next = search rules;
  objects = in_order c.in_ok-next.next c.loop-number.number c.loop-number.objects
      (omega (arith, c.max-number-end.ensures, c.loop-number-test.false))
      (omega (arith, c.max-number-end.ensures, c.loop-number.auto.number-end))
      c.loop-number.invariant.order;
}
