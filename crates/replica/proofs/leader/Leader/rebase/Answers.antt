use Rattle.std.proofs.Common.{◌∙◌, ap, sym, subst, rules}
use Rattle.tree_log.specs.Reading.{HoldsTree}
use Rattle.tree_log.specs.TreeLog.{TreeLogValue}
use Rattle.replica.proofs.Leads.{rebased}
use Rattle.replica.specs.Leading.{Leading}
use Rattle.replica.proofs.leader.Leader.rebase.Goals as goal

pub returns-then-moves_base-clause-state : goal.returns-then-moves_base-clause-state
returns-then-moves_base-clause-state c o clock = rebased _ _ _ clock _ o c.self.view_is
    (ap (λ (t : TreeLogValue). t.log) c.drop_to.ensures.log) (search rules)
    (sym c.if-moves_base.true ∙ c.moves_base.ensures.tests o)

pub returns-then-moves_base-clause-tree : goal.returns-then-moves_base-clause-tree
returns-then-moves_base-clause-tree c list upto told h = c.drop_to.ensures.tree list upto told
    (subst (λ (l : Leading). HoldsTree list upto l.log told) (sym c.self.view_is) h)
