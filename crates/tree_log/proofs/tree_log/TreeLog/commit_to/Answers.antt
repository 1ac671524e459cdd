use Rattle.std.proofs.Common.{sym, subst}
use Rattle.volatile_log.specs.Log.{LogValue}
use Rattle.tree_log.specs.Reading.{HoldsTree}
use Rattle.tree_log.specs.TreeLog.{TreeLogValue}
use Rattle.tree_log.proofs.Holding.{committed_holds}
use Rattle.tree_log.proofs.tree_log.TreeLog.commit_to.Goals as goal

pub returns-clause-tree : goal.returns-clause-tree
returns-clause-tree c list upto told h =
    subst (λ (g : LogValue). HoldsTree list upto g told) (sym c.commit_to.ensures)
    (committed_holds list upto c.args.n c.self.inside.log told
    (subst (λ (t : TreeLogValue). HoldsTree list upto t.log told) (sym c.self.view_is) h))
