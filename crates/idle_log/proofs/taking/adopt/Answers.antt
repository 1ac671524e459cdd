use Rattle.idle_log.proofs.TakingUp.{held_takes_up, other_goes_on}
use Rattle.idle_log.specs.Kept.{plan_of}
use Rattle.idle_log.proofs.taking.adopt.Goals as goal

pub adopt-requires-clause-base : goal.adopt-requires-clause-base
adopt-requires-clause-base c = (
  other_goes_on _ c.args.log (plan_of c.args.form.now) c.requires.can c.requires.stores,
  c.requires.can.disk 0 c.requires.stores,
)

pub returns-in-Ok-clause-ok : goal.returns-in-Ok-clause-ok
returns-in-Ok-clause-ok c = held_takes_up _ c.args.log
    (plan_of c.args.form.now) c.args.staged c.in-Ok.log
    c.cp.ensures.order c.requires.can c.requires.other c.requires.stores c.requires.pulled
    c.requires.full c.in-Ok.ensures.ok
