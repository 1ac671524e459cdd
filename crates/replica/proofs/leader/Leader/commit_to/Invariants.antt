use Rattle.std.proofs.Common.{◌≡◌, ◌≤◌}
use Rattle.std.specs.Prelude.{max}
use Rattle.node_outputs.specs.Said.{said}
use Rattle.replica.specs.Commits.{IsUnderWay}
use Rattle.replica.proofs.leader.Leader.commit_to.Given as goal

abbrev pub invariant-loop : goal.invariant-loop
invariant-loop l = record {
  all : IsUnderWay l.top l.initial.self l.self (said l.initial.outs) (said l.outs);
  cp : l.self.log.cp ≡ l.counter;
  within : l.counter ≤ max l.initial.self.log.cp l.top;
}
