use Rattle.std.proofs.Common.{Option, Some, refl, sym}
use Rattle.world_rules.specs.declared.stop.Stop.{Stop}
use Rattle.trace_types.specs.declared.step.Step.TheVariants as step
use Rattle.world.proofs.Steps.{power_taken}
use Rattle.world.proofs.world.World.cut_power.Goals as goal

pub returns-clause-taken : goal.returns-clause-taken
returns-clause-taken c =
    let a = c.args in
    let stop : Option Stop = Some (record { calls = a.calls; pick = c.in_ok-copy.field-0 }) in
    power_taken (step.PowerCut a.server a.calls a.pick.now) a.server (Some a.calls) a.pick.now stop
    a.self.now c.fail_power.new.self c.args.lines.now.items c.fail_power.new.lines.items
    c.requires c.in_ok-fail_power.ensures.fails (refl, sym c.in_ok-copy.ensures)
    (λ w. refl) (λ w. refl) (λ w. refl)
