use Rattle.std.proofs.Common.{rules}
use Rattle.idle_log.proofs.TakingUp.{drops_low, source_takes_up}
use Rattle.idle_log.specs.Kept.{plan_of}
use Rattle.idle_log.proofs.taking.resume.Goals as goal

pub resume-requires-clause-low : goal.resume-requires-clause-low
resume-requires-clause-low c = drops_low _ c.args.log (plan_of c.args.form.now) c.requires.can

pub returns-in-Ok-clause-ok : goal.returns-in-Ok-clause-ok
returns-in-Ok-clause-ok c = source_takes_up _ c.args.log
    (plan_of c.args.form.now) c.args.staged.records _
    c.cp.ensures.order c.requires.can c.requires.source (search rules)
