use Rattle.std.proofs.Common.{◌∙◌, ap, sym, rules}
use Rattle.replica.proofs.Leads.{formed_ignored, formed_kept}
use Rattle.replica.specs.Leading.{Leading}
use Rattle.replica.proofs.leader.Leader.formed.Goals as goal

pub returns-then-not-self-clause-heard : goal.returns-then-not-self-clause-heard
returns-then-not-self-clause-heard c o clock = formed_kept _ _ c.args.lb clock o c.self.view_is
    (search rules)

pub returns-else-not-self-clause-heard : goal.returns-else-not-self-clause-heard
returns-else-not-self-clause-heard c o clock = formed_ignored c.args.self.now c.args.lb clock o
    (ap (λ (l : Leading). l.opened) (sym c.self.view_is) ∙ search rules)
