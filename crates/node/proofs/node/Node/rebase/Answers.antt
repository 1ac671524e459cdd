use Rattle.std.proofs.Common.{ap, subst, sym, ◌∙◌}
use Rattle.group_rules.specs.Moves.{acts}
use Rattle.group_rules.specs.Names.{place_of}
use Rattle.group_rules.specs.Open.{rebase}
use Rattle.node.proofs.Led.{leads_rebased, rebased}
use Rattle.node.specs.Node.{NodeValue, server, value}
use Rattle.node.specs.State.{Fits}
use Rattle.node.specs.declared.state.State.{State}
use Rattle.node.proofs.Stocked.{base_stock}
use Rattle.node.proofs.node.Node.rebase.Goals as goal

pub invariant_of-self-2 : goal.invariant_of-self-2
invariant_of-self-2 c =
    let n = c.self.inside in (
      c.self.invariant.0,
      leads_rebased n.me n.mark n.horizon n.served n.duty c.in-Leads.leader c.rebase.new.self
          c.in-Leads.field-1
          (subst (λ (s : State). Fits (place_of n.me) n.mark s) c.in-Leads.is c.self.invariant.1)
          c.rebase.ensures.state,
    )

pub returns-clause-state : goal.returns-clause-state
returns-clause-state c items clock =
    let n = c.self.inside in
    rebased n.me n.mark n.horizon n.served n.duty c.in-Leads.leader c.rebase.new.self
    c.in-Leads.field-1 items clock
    (subst (λ (s : State). Fits (place_of n.me) n.mark s) c.in-Leads.is c.self.invariant.1)
    c.rebase.ensures.state
    ∙ ap (λ (v : NodeValue). acts v.me clock (server v items) (rebase (server v items)))
    (ap (λ (s : State). value n.me n.mark n.horizon n.served n.duty s) (sym c.in-Leads.is)
    ∙ c.self.view_is)

pub returns-clause-stock : goal.returns-clause-stock
returns-clause-stock c came items =
    let n = c.self.inside in
    base_stock n.me n.mark n.horizon n.served n.duty n.state c.in-Leads.leader c.rebase.new.self
    c.in-Leads.field-1 c.args.self.now came items c.in-Leads.is c.self.view_is c.self.invariant.1
    c.rebase.ensures.state c.rebase.ensures.log
    c.rebase.ensures.peers
