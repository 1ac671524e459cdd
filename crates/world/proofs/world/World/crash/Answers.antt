use Rattle.std.proofs.Common.{refl}
use Rattle.harp_types.specs.Trio.{value_of}
use Rattle.world.proofs.Crashes.{crash_taken}
use Rattle.world.proofs.Spent.{falls_then, host_then, me_then}
use Rattle.world.proofs.TheLaws.{the_laws}
use Rattle.world.proofs.world.World.crash.Goals as goal

pub returns-clause-taken : goal.returns-clause-taken
returns-clause-taken c =
    let a = c.args in
    let old = a.self.now in
    let spent = c.spend_stop.new.self in
    let new = c.crash_host.new.self in
    let is = c.spend_stop.ensures.world in
    let has = c.crash_host.ensures.world in
    crash_taken the_laws old new a.server a.pick.now (value_of new.hosts a.server)
    c.state_line-before.result c.state_line-after.result c.args.lines.now.items
    c.show_state.new.lines.items a.pick.now c.requires c.state_line-before.ensures
    (me_then old spent new a.server is has)
    (falls_then old spent new a.server is a.pick.now c.crash_host.ensures.falls)
    refl (host_then old spent new a.server is has) c.state_line-after.ensures
    c.in_ok-show_state.ensures
