use Rattle.std.proofs.Common.{ap, arith, length, subst}
use Rattle.sweep.specs.Lines.{IsNext}
use Rattle.outside_rows.proofs.Listed.{step-listed, steps-listed}
use Rattle.outside_rows.proofs.text.players.list_of.Goals as goal

pub loop-list-preserved : goal.loop-list-preserved
loop-list-preserved c =
    step-listed c.loop-list.list.items c.push.new.self.items c.loop-list.steps c.next.new.self _
    c.in-Some.step
    (subst (λ o. IsNext o c.loop-list.steps c.next.new.self) c.in-Some.is
    c.in_ok-step.ensures.next) c.in_ok-push.ensures.items c.loop-list.invariant

pub loop-list-smaller : goal.loop-list-smaller
loop-list-smaller c =
    let longer = ap length (subst (λ o. IsNext o c.loop-list.steps c.next.new.self) c.in-Some.is
    c.in_ok-step.ensures.next) in
    omega (arith, longer)

pub returns : goal.returns
returns c =
    steps-listed c.loop-list.list.items c.loop-list.steps _
    (subst (λ o. IsNext o c.loop-list.steps c.next.new.self) c.in_default.is
    c.in_ok-step.ensures.next).0 c.loop-list.invariant
