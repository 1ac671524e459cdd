use Rattle.std.proofs.Common.{◌≡◌, ◌+◌, ◌-◌, ◌++◌, take}
use Rattle.std.specs.Prelude.{max}
use Rattle.node_outputs.specs.Records.{records_sent}
use Rattle.node_outputs.specs.Said.{said}
use Rattle.replica.specs.Commits.{above}
use Rattle.replica.specs.Resending.{records_after, sent_again}
use Rattle.replica.proofs.Ticking.{events_sent}
use Rattle.replica.proofs.leader.Leader.send_again.Given as goal

abbrev pub invariant-loop-n : goal.invariant-loop-n
invariant-loop-n l = record {
  sends : record (said l.outs) {
    sends = (said l.outs).sends ++ events_sent l.self l.n
        (take (max l.self.log.base l.self.told_top + 64 - l.n) (above l.n l.self));
  }
      ≡ record (said l.initial.outs) {
        sends = (said l.initial.outs).sends ++ events_sent l.self
            (max l.self.log.base l.self.told_top) (take 64 (above
            (max l.self.log.base l.self.told_top) l.self));
      };
  records : records_sent l.outs
      ++ take (max l.self.log.base l.self.told_top + 64 - l.n) (records_after l.n l.self)
      ≡ records_sent l.initial.outs ++ sent_again l.self;
}
