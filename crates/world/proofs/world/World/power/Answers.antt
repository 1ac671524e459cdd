use Rattle.std.proofs.Common.{None, refl}
use Rattle.harp_types.specs.declared.pick.Pick.TheVariants as pick
use Rattle.trace_types.specs.declared.step.Step.TheVariants as step
use Rattle.world.proofs.Steps.{power_taken}
use Rattle.world.proofs.world.World.power.Goals as goal

pub returns-clause-taken : goal.returns-clause-taken
returns-clause-taken c = power_taken (step.Power c.args.server) c.args.server None pick.None None
    c.args.self.now c.fail_power.new.self c.args.lines.now.items c.fail_power.new.lines.items
    c.requires c.in_ok-fail_power.ensures.fails refl (λ w. refl) (λ w. refl)
    (λ w. refl)
