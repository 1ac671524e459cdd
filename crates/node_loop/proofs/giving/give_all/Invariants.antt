-- those so far were given, and what went out was sent
use Rattle.std.proofs.Common.{◌≡◌, ◌≤◌}
use Rattle.node_loop.specs.Chain.{Chain}
use Rattle.node_loop.specs.Run.{IsGiven}
use Rattle.node_loop.specs.Scene.{IsUp, work}
use Rattle.node_loop.proofs.giving.give_all.Given as goal

abbrev pub invariant-loop-input : goal.invariant-loop-input
invariant-loop-input g l = record {
  given : Chain (IsGiven l.me l.now) l.yielded
      (work l.fn.node (g.D.Store.told l.fn.store) (g.L.Link.told l.fn.link) l.fn.ledger)
      (work l.node (g.D.Store.told l.store) (g.L.Link.told l.link) l.ledger);
  up : IsUp l.node (g.D.Store.told l.store);
  taken : l.ledger.counts.taken ≡ l.fn.ledger.counts.taken;
  link_count : g.L.Link.faults l.fn.link ≤ g.L.Link.faults l.link;
  disk_count : g.D.Store.faults l.fn.store ≤ g.D.Store.faults l.store;
}
