use Rattle.std.proofs.Common.{◌∙◌, sym, arith}
use Rattle.sweep.proofs.LineLaws.{line-next, none-left, numbers-next, opening-within}
use Rattle.sweep.proofs.schedule.Schedule.next.Goals as goal

pub overflow_add-self : goal.overflow_add-self
overflow_add-self c =
    let few = opening-within c.self.inside.opened c.in-Some.step _ c.in-Some.ensures in
    omega (arith, few)

pub returns-then-self-eq0-clause-next : goal.returns-then-self-eq0-clause-next
returns-then-self-eq0-clause-next c =
    let none = sym c.self.view_is
    ∙ none-left c.self.inside.opened c.self.inside.lines c.self.inside.generator
    c.in_default.ensures.0 c.if-self-eq0.true in
    (none, none)

pub invariant_of-self-2 : goal.invariant_of-self-2
invariant_of-self-2 c =
    let left = c.if-self-eq0.false in
    numbers-next c.self.inside.lines c.in_ok-step.step c.self.inside.generator
    c.next_line.new.self (omega (arith, left)) (omega arith) c.in_ok-step.ensures
    c.self.invariant

pub returns-clause-next : goal.returns-clause-next
returns-clause-next c =
    let left = c.if-self-eq0.false in
    sym c.self.view_is
    ∙ line-next c.self.inside.opened c.self.inside.lines c.in_ok-step.step
    c.self.inside.generator c.next_line.new.self c.in_default.ensures.0 (omega (arith, left))
    c.in_ok-step.ensures
