use Rattle.std.proofs.Common.{◌+◌, refl, rules, subst, true}
use Rattle.std.specs.Prelude.{Option}
use Rattle.trace_check.specs.Breaches.{IsVerdict}
use Rattle.trace_check.specs.declared.breach.Breach.{Breach}
use Rattle.trace_verdict.proofs.Taking.{breaks_here, takes_here}
use Rattle.trace_verdict.proofs.judge.Judge.judge_line.Goals as goal

pub returns-in-Some-clause-after : goal.returns-in-Some-clause-after
returns-in-Some-clause-after c taken before text took spelled short only =
    breaks_here c.args.self.now taken before text c.args.line.now c.in-Some.breach took
    (record { spelled = spelled; only = only; short = short })
    ((c.can_follow.ensures taken before took).0 (search (rules)))
    (subst (λ (o : Option Breach). IsVerdict before c.args.line.now o) c.in-Some.is
    (c.in_ok-breach.ensures.verdict before took.saw))

pub returns-in-None-clause-after : goal.returns-in-None-clause-after
returns-in-None-clause-after c taken before text took spelled short only =
    takes_here c.args.self.now
    (record {
      checker = c.line.new.self;
      lines = c.args.self.now.lines + 1;
      ended = c.is_last-self.result;
    }) taken before text c.args.line.now took
    (record { spelled = spelled; only = only; short = short })
    ((c.can_follow.ensures taken before took).0 (search (rules)))
    (c.in_ok-breach.ensures.goes_on before took.saw (search (rules)) c.in-None.is) refl
    c.is_last-self.ensures
