-- what was heard and what wasn't bring the same together
use Rattle.std.proofs.Common.{◌≡◌, ◌≤◌, length}
use Rattle.std.specs.Prelude.{fold}
use Rattle.door_group.specs.Rule.{brings, hear}
use Rattle.door_group.proofs.asker.listen.Given as goal

abbrev pub invariant-loop-heard : goal.invariant-loop-heard
invariant-loop-heard g l = record {
  brings : fold (hear l.client l.number l.call) l.brought (g.S.Servers.said l.servers)
      ≡ brings l.client l.number l.call (g.S.Servers.said l.fn.servers);
  stands : (w : g.S.Servers.Scene) → g.S.Servers.stands l.fn.servers w
      → g.S.Servers.stands l.servers w;
  runs : g.S.Servers.runs l.servers;
  count : g.S.Servers.faults l.fn.servers ≤ g.S.Servers.faults l.servers;
  on : (o : g.S.Servers.Basis) → g.S.Servers.on l.fn.servers o → g.S.Servers.on l.servers o;
}

abbrev pub decreases-loop-heard : goal.decreases-loop-heard
decreases-loop-heard g l = length (g.S.Servers.said l.servers)
