use Rattle.std.proofs.Common.{sym, ◌∙◌}
use Rattle.world.proofs.Arrivals.{arrives_lost, arrives_taken}
use Rattle.world.proofs.world.World.arrive.Goals as goal

pub returns-then-not-is_up-clause-arrives : goal.returns-then-not-is_up-clause-arrives
returns-then-not-is_up-clause-arrives c = arrives_lost c.args.self.now c.args.packet
    c.args.lines.now.items (λ w h. sym (c.is_up.ensures w h) ∙ c.if-not-is_up.true)

pub returns-clause-arrives : goal.returns-clause-arrives
returns-clause-arrives c = arrives_taken c.args.self.now c.run.new.self c.args.packet
    c.args.lines.now.items c.run.new.lines.items c.in_ok-run.field-0
    (λ w h. sym (c.is_up.ensures w h) ∙ c.if-not-is_up.false) c.in_ok-run.ensures.turns
