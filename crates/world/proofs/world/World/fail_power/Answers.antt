use Rattle.harp_types.specs.Trio.{value_of}
use Rattle.world.proofs.Spent.{fails_then, host_then, me_then}
use Rattle.world.proofs.TheLaws.{the_laws}
use Rattle.world.proofs.Turns.{failure_leaves}
use Rattle.world.proofs.world.World.fail_power.Goals as goal

pub returns-clause-fails : goal.returns-clause-fails
returns-clause-fails c =
    let a = c.args in
    let old = a.self.now in
    let spent = c.spend_stop.new.self in
    let new = c.fail_host.new.self in
    let is = c.spend_stop.ensures.world in
    let has = c.in_ok-fail_host.ensures.world in
    failure_leaves the_laws old new a.server a.stop (value_of new.hosts a.server)
    c.state_line-before.result c.state_line-after.result a.lines.now.items c.show_state.new.lines.items
    c.state_line-before.ensures (me_then old spent new a.server is has)
    (fails_then old spent new a.server is a.stop c.in_ok-fail_host.ensures.fails)
    (host_then old spent new a.server is has) c.state_line-after.ensures c.in_ok-show_state.ensures
