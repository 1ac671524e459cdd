use Rattle.std.proofs.Common.{sym, subst}
use Rattle.tree_log.specs.Reading.{HoldsTree}
use Rattle.replica.specs.Following.{Following}
use Rattle.replica.proofs.partner.Partner.drop_to.Goals as goal

pub returns-clause-tree : goal.returns-clause-tree
returns-clause-tree c list upto told h = c.drop_to.ensures.tree list upto told
    (subst (λ (f : Following). HoldsTree list upto f.log told) (sym c.self.view_is) h)
