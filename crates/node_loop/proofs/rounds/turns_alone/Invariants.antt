-- so many turns were taken
use Rattle.std.proofs.Common.{◌≤◌, ◌∷◌, []}
use Rattle.node_loop.specs.Chain.{Chain}
use Rattle.node_loop.specs.Run.{TurnsAt, rounds}
use Rattle.node_loop.specs.Scene.{IsUp, alone, spot}
use Rattle.node_loop.proofs.rounds.turns_alone.Given as goal

abbrev pub invariant-loop : goal.invariant-loop
invariant-loop g l = record {
  turned : Chain TurnsAt (rounds l.counter (l.me ∷ []))
      (alone l.me (spot l.fn.running (g.D.Store.told l.fn.store) (g.L.Link.told l.fn.link)
      (g.C.Clock.told l.fn.clock) l.fn.ledger))
      (alone l.me (spot l.running (g.D.Store.told l.store) (g.L.Link.told l.link)
      (g.C.Clock.told l.clock) l.ledger));
  up : IsUp l.running.node (g.D.Store.told l.store);
  link_count : g.L.Link.faults l.fn.link ≤ g.L.Link.faults l.link;
  disk_count : g.D.Store.faults l.fn.store ≤ g.D.Store.faults l.store;
}
