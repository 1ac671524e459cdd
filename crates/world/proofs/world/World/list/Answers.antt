use Rattle.world.proofs.Steps.{list_taken}
use Rattle.world.proofs.world.World.list.Goals as goal

pub returns-clause-taken : goal.returns-clause-taken
returns-clause-taken c = list_taken c.args.server c.args.self.now c.run.new.self
    c.args.lines.now.items c.run.new.lines.items c.show_listing.new.lines.items
    c.in_ok-listing.listing c.requires.none c.in_ok-listing.ensures.turns
    c.in_ok-show_listing.ensures
