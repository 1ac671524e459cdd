use Rattle.std.proofs.Common.{None, Some, subst, if◌then◌else◌}
use Rattle.harp_types.specs.Trio.{value_of}
use Rattle.world.specs.Given.{Gives}
use Rattle.world.specs.World.{WorldValue}
use Rattle.world.proofs.Spent.{host_then, me_then, takes_then}
use Rattle.world.proofs.TheLaws.{the_laws}
use Rattle.world.proofs.Turns.{turn_leaves}
use Rattle.world.proofs.world.World.run_into.Goals as goal

pub returns-clause-turns : goal.returns-clause-turns
returns-clause-turns c =
    let a = c.args in
    let old = a.self.now in
    let spent = c.spend_stop-stop.new.self in
    let stepped = c.step_host.new.self in
    let is = c.spend_stop-stop.ensures.world in
    let has = c.in_ok-gives.ensures.world in
    let outs = if c.in_ok-gives.gives then Some c.step_host.new.outs else None in
    turn_leaves the_laws old c.give.new.self a.server a.input (value_of stepped.hosts a.server) outs
    c.state_line-before.result c.state_line-after.result a.lines.now.items c.give.new.lines.items
    c.show_state.new.lines.items c.in_ok-listing.listing c.state_line-before.ensures
    (me_then old spent stepped a.server is has)
    (takes_then old spent stepped a.server is a.input c.spend_stop-stop.result outs
    c.spend_stop-stop.ensures.stop c.in_ok-gives.ensures.takes)
    (subst (λ (x : WorldValue). Gives x c.give.new.self a.server outs a.lines.now.items
    c.give.new.lines.items c.in_ok-listing.listing)
    (host_then old spent stepped a.server is has) c.in_ok-listing.ensures)
    c.state_line-after.ensures c.in_ok-show_state.ensures
