use Rattle.std.proofs.Common.{ap, arith, length, subst}
use Rattle.sweep.specs.Lines.{IsNext}
use Rattle.sweep.proofs.TextLaws.{step-written, steps-written}
use Rattle.sweep.proofs.schedule_writer.text_of.Goals as goal

pub loop-text-preserved : goal.loop-text-preserved
loop-text-preserved c =
    step-written c.loop-text.text.items c.append_line.new.text.items _ c.in-Some.step
    c.loop-text.steps c.next.new.self
    (subst (λ o. IsNext o c.loop-text.steps c.next.new.self) c.in-Some.is
    c.in_ok-step.ensures.next) c.in_ok-append_line.ensures c.loop-text.invariant

pub loop-text-smaller : goal.loop-text-smaller
loop-text-smaller c =
    let longer = ap length (subst (λ o. IsNext o c.loop-text.steps c.next.new.self) c.in-Some.is
    c.in_ok-step.ensures.next) in
    omega (arith, longer)

pub returns : goal.returns
returns c =
    steps-written c.loop-text.text.items _ c.loop-text.steps
    (subst (λ o. IsNext o c.loop-text.steps c.next.new.self) c.in_default.is
    c.in_ok-step.ensures.next).0 c.loop-text.invariant
