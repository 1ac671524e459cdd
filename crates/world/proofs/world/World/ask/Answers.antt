use Rattle.std.proofs.Common.{refl}
use Rattle.group_rules.specs.Step.{Ask}
use Rattle.node.specs.declared.input.Input.TheVariants as input
use Rattle.trace_types.specs.declared.step.Step.TheVariants as step
use Rattle.world.specs.declared.asking.TheConstants.{CLIENT}
use Rattle.world.proofs.Steps.{deed_taken}
use Rattle.world.proofs.world.World.ask.Goals as goal

pub returns-clause-taken : goal.returns-clause-taken
returns-clause-taken c =
    let a = c.args in
    deed_taken (step.Ask a.server a.client a.number a.cred a.call) a.server
    (input.Ask CLIENT a.client a.number a.cred a.call)
    (Ask a.client a.number a.cred a.call) a.self.now c.run.new.self c.args.lines.now.items
    c.run.new.lines.items c.in_ok-run.field-0 c.requires.none c.in_ok-run.ensures.turns
    refl tt (λ w. refl) (λ w. refl) (λ w. refl)
