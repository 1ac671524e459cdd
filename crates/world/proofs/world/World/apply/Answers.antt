use Rattle.std.proofs.Common.{refl}
use Rattle.group_rules.specs.Step.{Apply}
use Rattle.node.specs.declared.input.Input.TheVariants as input
use Rattle.trace_types.specs.declared.step.Step.TheVariants as step
use Rattle.world.proofs.Steps.{deed_taken}
use Rattle.world.proofs.world.World.apply.Goals as goal

pub returns-clause-taken : goal.returns-clause-taken
returns-clause-taken c = deed_taken (step.Apply c.args.server c.args.most) c.args.server (input.Apply c.args.most) (Apply c.args.most) c.args.self.now c.run.new.self
    c.args.lines.now.items c.run.new.lines.items c.in_ok-run.field-0 c.requires.none
    c.in_ok-run.ensures.turns refl tt (λ w. refl) (λ w. refl) (λ w. refl)
