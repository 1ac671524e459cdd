-- so many rounds of turns were taken
use Rattle.std.proofs.Common.{◌≤◌}
use Rattle.node_loop.specs.Run.{TakesTurns}
use Rattle.node_loop.specs.Scene.{AreUp, NoneFell, each, scene_of}
use Rattle.node_loop.proofs.three.Three.take_turns.Given as goal

abbrev pub invariant-loop : goal.invariant-loop
invariant-loop g l = record {
  turned : TakesTurns l.counter
      (scene_of l.fn.self (each g.D.Store.told l.fn.stores) (g.L.Link.told l.fn.link)
      (g.C.Clock.told l.fn.clock))
      (scene_of l.self (each g.D.Store.told l.stores) (g.L.Link.told l.link)
      (g.C.Clock.told l.clock));
  up : AreUp l.self.servers (each g.D.Store.told l.stores);
  link_count : g.L.Link.faults l.fn.link ≤ g.L.Link.faults l.link;
  disk_count : NoneFell (each g.D.Store.faults l.fn.stores) (each g.D.Store.faults l.stores);
}
