use Rattle.std.proofs.Common.{[], ap, refl}
use Rattle.group_rules.specs.Open.{try_open}
use Rattle.node.proofs.Heeds.{no_leader, stays, tries_none}
use Rattle.node.proofs.InView.{leads_fits, leads_made, quiet_open}
use Rattle.node.specs.State.{outer}
use Rattle.replica.specs.Leading.{led, place_led}
use Rattle.node.proofs.Stocked.{led_stock}
use Rattle.node.specs.Stock.{stock}
use Rattle.volatile_log.specs.Log.{LogValue}
use Rattle.node.proofs.node.Node.try_open.Goals as goal

pub returns-in_default-clause-makes : goal.returns-in_default-clause-makes
returns-in_default-clause-makes c items =
    let n = c.self.inside in
    let now = c.args.self.now in
    let led = no_leader n.state c.in_default.not-Leads in
    stays n.me n.mark n.horizon n.served n.duty n.state n.state now items now.me
    c.args.now _ [] c.args.outs.now c.self.view_is refl
    (tries_none n.me n.mark n.horizon n.served n.duty n.state now items c.args.now c.self.view_is
    c.self.invariant.1 led)

pub invariant_of-self-in-Ok : goal.invariant_of-self-in-Ok
invariant_of-self-in-Ok c =
    let n = c.self.inside in
    let l = c.in-Leads.leader in
    let o = outer n.me n.mark n.horizon n.served n.duty c.in-Leads.field-1 in (
      c.self.invariant.0,
      leads_fits n.me n.mark n.horizon n.served n.duty l c.try_open.new.self c.in-Leads.field-1
          n.state c.args.now (try_open (place_led l o) c.args.now (led l o))
          c.in-Leads.is c.self.invariant.1 (quiet_open (place_led l o) c.args.now (led l o))
          (c.in-Ok.ensures.makes o).state,
    )

pub returns-in-Ok-clause-makes : goal.returns-in-Ok-clause-makes
returns-in-Ok-clause-makes c items =
    let n = c.self.inside in
    let l = c.in-Leads.leader in
    let o = outer n.me n.mark n.horizon n.served n.duty c.in-Leads.field-1 in
    leads_made n.me n.mark n.horizon n.served n.duty l c.try_open.new.self c.in-Leads.field-1
    n.state c.args.self.now items c.args.now (λ q t. try_open q c.args.now t) (λ x. [])
    c.args.outs.now c.try_open.new.outs c.in-Leads.is c.self.view_is c.self.invariant.1
    (quiet_open (place_led l o) c.args.now (led l o)) (c.in-Ok.ensures.makes o)

pub returns-in_default-clause-stock : goal.returns-in_default-clause-stock
returns-in_default-clause-stock c = ap stock c.self.view_is

pub returns-in-Ok-clause-stock : goal.returns-in-Ok-clause-stock
returns-in-Ok-clause-stock c =
    let n = c.self.inside in
    led_stock n.me n.mark n.horizon n.served n.duty n.state c.in-Leads.leader c.try_open.new.self
    c.in-Leads.field-1 c.args.self.now c.in-Leads.is c.self.view_is
    (ap (λ (g : LogValue). g.records) c.in-Ok.ensures.log) c.in-Ok.ensures.peers
