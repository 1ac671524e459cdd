use Rattle.world.proofs.Arrivals.{delivery_taken}
use Rattle.world.proofs.world.World.deliver.Goals as goal

pub returns-clause-taken : goal.returns-clause-taken
returns-clause-taken c = delivery_taken c.args.self.now c.arrive.new.self c.count.new.self
    c.args.packet c.in_ok-opened.opened c.args.lines.now.items c.arrive.new.lines.items
    c.requires.none c.in_ok-opened.ensures c.in_ok-arrive.ensures.arrives c.count.ensures
