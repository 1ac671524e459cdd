use Rattle.std.proofs.Common.{refl, subst}
use Rattle.trace_check.specs.Breaches.{IsVerdict}
use Rattle.trace_check.proofs.BreachLaws.{accepts_more, first_breaks}
use Rattle.trace_check.proofs.checker.Checker.line.Goals as goal

pub returns-in-Some-clause-accepted : goal.returns-in-Some-clause-accepted
returns-in-Some-clause-accepted c before s =
    let verdict = subst (IsVerdict before c.args.line.now) c.in-Some.is
    (c.in_ok-breach.ensures before s).0 in (
      λ e. absurd cc,
      λ a. absurd (first_breaks before c.args.line.now c.in-Some.breach verdict a),
    )

pub returns-in_ok-take-in-None-clause-accepted : goal.returns-in_ok-take-in-None-clause-accepted
returns-in_ok-take-in-None-clause-accepted c before s =
    let verdict = subst (IsVerdict before c.args.line.now) c.in-None.is
    (c.in_ok-breach.ensures before s).0 in (
      λ e. accepts_more before c.args.line.now s.accepted verdict,
      λ a. refl,
    )

pub returns-in_ok-take-in-None-clause-goes_on : goal.returns-in_ok-take-in-None-clause-goes_on
returns-in_ok-take-in-None-clause-goes_on c before s lt e =
    let found = c.in_ok-breach.ensures before s in
    c.in_ok-take-in-None.ensures before c.args.self.now s lt found.1
    (subst (IsVerdict before c.args.line.now) c.in-None.is found.0)
