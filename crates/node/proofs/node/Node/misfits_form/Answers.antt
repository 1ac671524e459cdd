use Rattle.std.proofs.Common.{ap}
use Rattle.idle_log.specs.Kept.{plan_of}
use Rattle.node.proofs.Tested.{form_misfits, form_unsent}
use Rattle.node.specs.Node.{NodeValue}
use Rattle.node.proofs.node.Node.misfits_form.Goals as goal

pub returns-then-not-is_one : goal.returns-then-not-is_one
returns-then-not-is_one c = form_unsent c.args.self.now c.args.from c.self.inside.me c.args.view
    (plan_of c.args.plan.now) c.coordinator.result c.is_one.result c.is_one-2.result
    (ap (λ (n : NodeValue). n.me) c.self.view_is) c.is_one.ensures c.if-is_one.false
    c.coordinator.ensures c.is_one-2.ensures c.if-not-is_one.true

pub returns : goal.returns
returns c = form_misfits c.args.self.now c.args.from c.self.inside.me c.args.view
    (plan_of c.args.plan.now) c.coordinator.result c.is_one.result c.is_one-2.result
    c.takes.result (ap (λ (n : NodeValue). n.me) c.self.view_is) c.is_one.ensures
    c.if-is_one.false c.coordinator.ensures c.is_one-2.ensures c.if-not-is_one.false
    c.takes.ensures
