use Rattle.std.proofs.Common.{◌≤◌, sym, subst}
use Rattle.tree_log.specs.Reading.{HoldsTree}
use Rattle.replica.specs.Leading.{Leading}
use Rattle.volatile_log.specs.Log.{top}
use Rattle.replica.proofs.leader.Leader.append_record.Goals as goal

pub returns-clause-tree : goal.returns-clause-tree
returns-clause-tree c list upto told e le is update h = c.in_ok-append.ensures.tree list upto told e
    (subst (λ (l : Leading). upto ≤ top l.log) (sym c.self.view_is) le) is update
    (subst (λ (l : Leading). HoldsTree list upto l.log told) (sym c.self.view_is) h)
