-- those so far were told
use Rattle.std.proofs.Common.{◌≡◌, ◌++◌}
use Rattle.std.specs.Prelude.{flat_map}
use Rattle.node_loop.specs.Outgoing.{refusal_sent, heard_refusal}
use Rattle.node_loop.proofs.outgoing.tell_refusals.Given as goal

abbrev pub invariant-loop-refusal : goal.invariant-loop-refusal
invariant-loop-refusal l = record {
  sent : l.out.items ≡ l.fn.out.items ++ flat_map (refusal_sent l.place) l.yielded;
  heard : l.heard.items ≡ l.fn.heard.items ++ flat_map heard_refusal l.yielded;
}
