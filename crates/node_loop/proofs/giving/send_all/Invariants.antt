-- those so far were sent
use Rattle.std.proofs.Common.{◌≡◌, ◌≤◌}
use Rattle.node_loop.specs.Scene.{sent_after, with_all_sent}
use Rattle.node_loop.proofs.giving.send_all.Given as goal

abbrev pub invariant-loop-d : goal.invariant-loop-d
invariant-loop-d g l = record {
  link : g.L.Link.told l.link ≡ with_all_sent l.yielded (g.L.Link.told l.fn.link);
  taken : l.counts.taken ≡ l.fn.counts.taken;
  sent : l.counts.sent ≡ sent_after l.yielded l.fn.counts.sent;
  count : g.L.Link.faults l.fn.link ≤ g.L.Link.faults l.link;
}
