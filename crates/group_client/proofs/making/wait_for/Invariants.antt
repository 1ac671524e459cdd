-- the call waits, and what comes of it from here on comes of it from the start
use Rattle.std.proofs.Common.{◌≤◌}
use Rattle.group_client.specs.Calling.{asking_of, scene_of}
use Rattle.client_calls.specs.Waits.{longest_pause}
use Rattle.group_client.specs.Rule.{Goes, Outcome}
use Rattle.group_client.proofs.making.wait_for.Given as goal

abbrev pub invariant-loop-left : goal.invariant-loop-left
invariant-loop-left g l = record {
  rest : (o : Outcome)
      → Goes l.left (asking_of l.asking) o l.wait
      (scene_of g.L.Link.told g.C.Clock.told l.outside)
      → Goes l.fn.steps (asking_of l.asking) o l.fn.wait
      (scene_of g.L.Link.told g.C.Clock.told l.fn.outside);
  pause : l.wait.pause ≤ longest_pause;
  count : g.L.Link.faults l.fn.outside.link ≤ g.L.Link.faults l.outside.link;
}

abbrev pub decreases-loop-left : goal.decreases-loop-left
decreases-loop-left g l = l.left
