use Rattle.std.proofs.Common.{sym, ◌∙◌, ap}
use Rattle.group_rules.specs.Names.{number_of_view, place_of}
use Rattle.node.proofs.LedFormed.{hears_leading, node_hears}
use Rattle.node.proofs.Stocked.{led_stock}
use Rattle.volatile_log.specs.Log.{LogValue}
use Rattle.node.proofs.node.Node.formed.Goals as goal

pub invariant_of-self-in-Leads : goal.invariant_of-self-in-Leads
invariant_of-self-in-Leads c = (
  c.self.invariant.0,
  hears_leading c.self.inside.me c.self.inside.mark c.self.inside.horizon c.self.inside.served
      c.self.inside.duty c.self.inside.state c.in-Leads.leader c.formed.new.self
      c.in-Leads.field-1 c.args.lb c.in-Leads.is c.self.invariant.1 c.formed.ensures.heard,
)

pub returns-in-Leads-clause-state : goal.returns-in-Leads-clause-state
returns-in-Leads-clause-state c items clock = node_hears c.self.inside.me c.self.inside.mark
    c.self.inside.horizon c.self.inside.served
    c.self.inside.duty c.self.inside.state c.args.self.now c.in-Leads.leader
    c.formed.new.self c.in-Leads.field-1 items clock (place_of c.args.from)
    (number_of_view c.args.view) c.args.lb c.in-Leads.is c.self.view_is c.self.invariant.1
    c.formed.ensures.heard c.requires.proper
    (sym c.has_promised.ensures.test ∙ c.if-not-has_promised.false)

pub returns-in-Leads-clause-stock : goal.returns-in-Leads-clause-stock
returns-in-Leads-clause-stock c =
    let n = c.self.inside in
    led_stock n.me n.mark n.horizon n.served n.duty n.state c.in-Leads.leader c.formed.new.self
    c.in-Leads.field-1 c.args.self.now c.in-Leads.is c.self.view_is
    (ap (λ (g : LogValue). g.records) c.formed.ensures.log) c.formed.ensures.peers
