use Rattle.std.proofs.Common.{ap}
use Rattle.std.proofs.lemmas.Result.{on_ok_weaker}
use Rattle.replica.proofs.Trees.{commits_keep}
use Rattle.replica.specs.Leading.{Leading}
use Rattle.volatile_log.specs.Log.{top}
use Rattle.replica.proofs.leader.Leader.open.Goals as goal

pub returns-clause-tree : goal.returns-clause-tree
returns-clause-tree c = on_ok_weaker c.announce.result
    (λ told. commits_keep c.args.self.now.log c.become_open.new.self.log
    (top c.args.self.now.log) (ap (λ (l : Leading). l.log) c.become_open.ensures))
    c.announce.ensures.said
