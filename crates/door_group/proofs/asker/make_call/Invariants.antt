-- the call waits, and what comes of it from here on comes of it from the start
use Rattle.std.proofs.Common.{◌+◌, ◌≤◌}
use Rattle.door_group.specs.Rule.{asked}
use Rattle.door_group.proofs.Calls.{IsWaiting}
use Rattle.door_group.proofs.asker.make_call.Given as goal

abbrev pub invariant-loop-left : goal.invariant-loop-left
invariant-loop-left g l = record {
  waits : (w : g.S.Servers.Scene) → g.S.Servers.stands l.fn.servers w
      → IsWaiting g.S.Servers.turns g.S.Servers.asks g.S.Servers.turn_breaks g.S.Servers.ask_breaks
      l.turns
      (asked l.ticket l.call)
      l.fn.place w (g.S.Servers.stands l.servers) (g.S.Servers.said l.servers) l.left l.quiet l.place;
  few : l.quiet + l.left ≤ l.turns;
  runs : g.S.Servers.runs l.servers;
  count : g.S.Servers.faults l.fn.servers ≤ g.S.Servers.faults l.servers;
  on : (o : g.S.Servers.Basis) → g.S.Servers.on l.fn.servers o → g.S.Servers.on l.servers o;
}

abbrev pub decreases-loop-left : goal.decreases-loop-left
decreases-loop-left g l = l.left
