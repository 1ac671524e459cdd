use Rattle.std.proofs.Common.{sym, ◌∙◌}
use Rattle.world.proofs.Showings.{shown_right, world_still}
use Rattle.world.proofs.world.World.show.Goals as goal

pub returns-in-Ok-clause-rule : goal.returns-in-Ok-clause-rule
returns-in-Ok-clause-rule c w reached world =
    (shown_right w reached c.args.self.now world c.args.server
    (sym (c.is_up.ensures w world) ∙ c.if-not-is_up.false) c.args.want.now c.in-Ok.shown
    c.in-Ok.ensures.shown).rule

pub returns-in-Ok-clause-truly : goal.returns-in-Ok-clause-truly
returns-in-Ok-clause-truly c w reached world =
    (shown_right w reached c.args.self.now world c.args.server
    (sym (c.is_up.ensures w world) ∙ c.if-not-is_up.false) c.args.want.now c.in-Ok.shown
    c.in-Ok.ensures.shown).truly

pub returns-in-Ok-clause-stands : goal.returns-in-Ok-clause-stands
returns-in-Ok-clause-stands c w world =
    world_still w c.args.self.now c.show_host.new.self c.args.server c.in-Ok.ensures.still world
