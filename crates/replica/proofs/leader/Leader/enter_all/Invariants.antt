use Rattle.std.proofs.Common.{◌≡◌, ◌++◌}
use Rattle.node_outputs.specs.Records.{records_sent}
use Rattle.node_outputs.specs.Said.{said}
use Rattle.replica.specs.Commits.{above}
use Rattle.replica.proofs.leader.Leader.enter_all.Given as goal

abbrev pub invariant-loop-n : goal.invariant-loop-n
invariant-loop-n l = record {
  said : record (said l.outs) {
    committed =
        (said l.outs).committed ++ above l.n l.self;
  }
      ≡ record (said l.initial.outs) {
        committed =
            (said l.initial.outs).committed ++ above l.self.log.cp l.self;
      };
  records : records_sent l.outs ≡ records_sent l.initial.outs;
}
