-- so many turns were taken, what is new was shown behind each, and at each tick the answer was no
use Rattle.std.proofs.Common.{◌≡◌, ◌≤◌}
use Rattle.node_loop.specs.Orders.{Answered, noes}
use Rattle.node_loop.specs.Scene.{IsUp}
use Rattle.node_loop.specs.Stay.{ShowsRuns, outer_of, scene_on}
use Rattle.node_loop.specs.Watch.{state_shown}
use Rattle.node_loop.proofs.staying.turns_until.Given as goal

abbrev pub invariant-loop-taken : goal.invariant-loop-taken
invariant-loop-taken g l = record {
  shown : l.shown ≡ state_shown l.running.node;
  runs : ShowsRuns l.me l.taken
      (scene_on l.me l.fn.running l.fn.ledger
      (outer_of g.L.Link.told g.L.Link.unsent g.D.Store.told g.C.Clock.told g.O.Orders.told g.W.Watcher.told
      l.fn.outside))
      (scene_on l.me l.running l.ledger
      (outer_of g.L.Link.told g.L.Link.unsent g.D.Store.told g.C.Clock.told g.O.Orders.told g.W.Watcher.told
      l.outside)) l.dropped
      (g.W.Watcher.told l.fn.outside.watcher) (g.W.Watcher.told l.outside.watcher);
  up : IsUp l.running.node (g.D.Store.told l.outside.disk);
  few : l.running.pace.ticks ≤ l.taken;
  answers : Answered (noes l.running.pace.ticks) (g.O.Orders.told l.fn.outside.orders)
      (g.O.Orders.told l.outside.orders);
  link_count : g.L.Link.faults l.fn.outside.link ≤ g.L.Link.faults l.outside.link;
  disk_count : g.D.Store.faults l.fn.outside.disk ≤ g.D.Store.faults l.outside.disk;
}
