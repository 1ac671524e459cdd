use Rattle.std.proofs.Common.{◌≡◌, ◌++◌, All, map}
use Rattle.node_outputs.specs.declared.outputs.Sent.{Sent}
use Rattle.wire.specs.Messages.{MessageFits}
use Rattle.node_loop.specs.Outgoing.{message_sent}
use Rattle.node_loop.proofs.outgoing.put_messages.Given as goal

abbrev pub invariant-loop-sent : goal.invariant-loop-sent
invariant-loop-sent l = record {
  sent : l.out.items ≡ l.fn.out.items ++ map (message_sent l.place) l.yielded;
  fit : All (λ (s : Sent). MessageFits s.message) l.yielded;
}
