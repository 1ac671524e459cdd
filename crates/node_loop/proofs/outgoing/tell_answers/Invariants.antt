-- those so far were told
use Rattle.std.proofs.Common.{◌≡◌, ◌++◌}
use Rattle.std.specs.Prelude.{flat_map}
use Rattle.node_loop.specs.Outgoing.{answer_sent, heard_answer}
use Rattle.node_loop.proofs.outgoing.tell_answers.Given as goal

abbrev pub invariant-loop-answer : goal.invariant-loop-answer
invariant-loop-answer l = record {
  sent : l.out.items ≡ l.fn.out.items ++ flat_map (answer_sent l.place) l.yielded;
  heard : l.heard.items ≡ l.fn.heard.items ++ flat_map heard_answer l.yielded;
}
