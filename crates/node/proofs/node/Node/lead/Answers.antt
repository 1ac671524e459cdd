use Rattle.std.proofs.Common.{[], ap, refl}
use Rattle.node.proofs.Heeds.{leads_none, no_leader, stays}
use Rattle.node.proofs.InView.{leads, leads_fits, leads_made, quiet_leads}
use Rattle.node.specs.State.{outer}
use Rattle.replica.specs.Leading.{led, place_led}
use Rattle.node.proofs.Stocked.{led_stock}
use Rattle.node.specs.Stock.{stock}
use Rattle.volatile_log.specs.Log.{LogValue}
use Rattle.std.proofs.lemmas.List.Elements.{Contains-append_left}
use Rattle.node.proofs.Wholes.{leads_sent}
use Rattle.node_outputs.specs.Records.{records_sent}
use Rattle.node.proofs.node.Node.lead.Goals as goal

pub returns-in_default-clause-makes : goal.returns-in_default-clause-makes
returns-in_default-clause-makes c items =
    let n = c.self.inside in
    let now = c.args.self.now in
    let led = no_leader n.state c.in_default.not-Leads in
    stays n.me n.mark n.horizon n.served n.duty n.state n.state now items now.me
    c.args.now _ [] c.args.outs.now c.self.view_is refl
    (leads_none n.me n.mark n.horizon n.served n.duty n.state now items c.args.now c.self.view_is
    c.self.invariant.1 led)

pub invariant_of-self-in-Ok : goal.invariant_of-self-in-Ok
invariant_of-self-in-Ok c =
    let n = c.self.inside in
    let l = c.in-Leads.leader in
    let o = outer n.me n.mark n.horizon n.served n.duty c.in-Leads.field-1 in (
      c.self.invariant.0,
      leads_fits n.me n.mark n.horizon n.served n.duty l c.tick.new.self c.in-Leads.field-1 n.state
          c.args.now (leads c.args.now (place_led l o) (led l o)) c.in-Leads.is
          c.self.invariant.1 (quiet_leads (place_led l o) c.args.now (led l o))
          (c.in-Ok.ensures.makes o).state,
    )

pub returns-in-Ok-clause-makes : goal.returns-in-Ok-clause-makes
returns-in-Ok-clause-makes c items =
    let n = c.self.inside in
    let l = c.in-Leads.leader in
    let o = outer n.me n.mark n.horizon n.served n.duty c.in-Leads.field-1 in
    leads_made n.me n.mark n.horizon n.served n.duty l c.tick.new.self c.in-Leads.field-1 n.state
    c.args.self.now items c.args.now (leads c.args.now) (λ x. []) c.args.outs.now
    c.tick.new.outs c.in-Leads.is c.self.view_is c.self.invariant.1
    (quiet_leads (place_led l o) c.args.now (led l o)) (c.in-Ok.ensures.makes o)

pub returns-in_default-clause-stock : goal.returns-in_default-clause-stock
returns-in_default-clause-stock c = ap stock c.self.view_is

pub returns-in-Ok-clause-stock : goal.returns-in-Ok-clause-stock
returns-in-Ok-clause-stock c =
    let n = c.self.inside in
    led_stock n.me n.mark n.horizon n.served n.duty n.state c.in-Leads.leader c.tick.new.self
    c.in-Leads.field-1 c.args.self.now c.in-Leads.is c.self.view_is
    (ap (λ (g : LogValue). g.records) c.in-Ok.ensures.log) c.in-Ok.ensures.peers

pub returns-in_default-clause-sent : goal.returns-in_default-clause-sent
returns-in_default-clause-sent c r h =
    Contains-append_left (records_sent c.args.outs.now) c.args.self.now.records r h

pub returns-in-Ok-clause-sent : goal.returns-in-Ok-clause-sent
returns-in-Ok-clause-sent c =
    let n = c.self.inside in
    leads_sent n.me n.mark n.horizon n.served n.duty n.state c.in-Leads.leader c.in-Leads.field-1
    c.args.self.now (records_sent c.args.outs.now) (records_sent c.tick.new.outs)
    c.in-Leads.is c.self.view_is c.in-Ok.ensures.records
