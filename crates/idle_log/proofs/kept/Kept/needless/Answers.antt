use Rattle.std.proofs.Common.{◌≤◌, sym, ◌∙◌, arith}
use Rattle.idle_log.proofs.TakingUp.{held_bounds}
use Rattle.idle_log.specs.Kept.{plan_of}
use Rattle.idle_log.proofs.kept.Kept.needless.Goals as goal

bounds : (c : goal.After-cp)
    → (c.args.form.now.base ≤ c.in-Held.log.cp) × (c.in-Held.log.cp ≤ c.args.form.now.start)
bounds c = held_bounds _ c.args.self.now
    (plan_of c.args.form.now) c.in-Held.log c.in-Held.is c.requires
    (sym c.is_witness.ensures ∙ c.if-is_witness.false) c.cp.ensures.order

pub returns-in-Held-clause-within : goal.returns-in-Held-clause-within
returns-in-Held-clause-within c = (
  omega (arith, (bounds c).0, c.cp.ensures.value),
  omega (arith, (bounds c).1, c.cp.ensures.value),
)

pub returns-in-Held-clause-start : goal.returns-in-Held-clause-start
returns-in-Held-clause-start c = (
  omega (arith, (bounds c).0, c.cp.ensures.value, c.requires.room),
  c.requires.limit,
)
