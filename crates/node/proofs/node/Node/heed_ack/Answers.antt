use Rattle.std.proofs.Common.{◌≡◌, ◌≤◌, ◌==◌, true, false, ℕ, sym, subst, [], ap, refl}
use Rattle.std.proofs.lemmas.Bool.{eqb-true}
use Rattle.group_rules.specs.Names.{number_of_view}
use Rattle.group_rules.specs.Replicate.{on_ack}
use Rattle.node.proofs.Heeds.{accepted_test, heeds_none, in_view_led, leaves, no_leader, not_open, other_view_ack, stays, top_led}
use Rattle.node.proofs.InView.{leads_fits, leads_made, quiet_ack}
use Rattle.node.specs.Node.{server, value}
use Rattle.node.specs.State.{outer}
use Rattle.node.specs.declared.state.State.TheVariants as state
use Rattle.node_outputs.specs.Makes.{Makes}
use Rattle.replica.specs.Leading.{led}
use Rattle.node.proofs.Stocked.{ack_stock}
use Rattle.node.proofs.Stocks.{stocks_so}
use Rattle.node.specs.Stock.{stock, stock_in}
use Rattle.volatile_log.specs.Log.{LogValue}
use Rattle.node.proofs.node.Node.heed_ack.Goals as goal

pub returns-then-not-is_view-clause-makes : goal.returns-then-not-is_view-clause-makes
returns-then-not-is_view-clause-makes c items clock =
    let n = c.self.inside in
    let s = server c.args.self.now items in
    leaves c.args.self.now.me clock _ s c.args.self.now.peers c.args.outs.now
    (other_view_ack s (number_of_view c.args.view) c.args.top c.args.lb c.args.until
    (accepted_test n.me n.mark n.horizon n.served n.duty n.state c.args.self.now c.args.view
    c.accepted.result c.is_view.result false c.self.view_is c.accepted.ensures c.is_view.ensures
    c.if-not-is_view.true))

pub returns-in_default-clause-makes : goal.returns-in_default-clause-makes
returns-in_default-clause-makes c items clock =
    let n = c.self.inside in
    let s = server c.args.self.now items in
    let led = no_leader n.state c.in_default.not-Leads in
    stays n.me n.mark n.horizon n.served n.duty n.state n.state c.args.self.now
    items c.args.self.now.me clock _ c.args.self.now.peers c.args.outs.now c.self.view_is
    refl
    (heeds_none s (number_of_view c.args.view) c.args.top c.args.lb c.args.until
    (not_open n.me n.mark n.horizon n.served n.duty n.state c.args.self.now c.self.view_is led))

ours : (c : goal.After-ack-arg-1)
    → (number_of_view c.args.view == c.args.self.now.plain.accepted) ≡ true
ours c =
    let n = c.self.inside in
    accepted_test n.me n.mark n.horizon n.served n.duty n.state c.args.self.now c.args.view
    c.accepted.result c.is_view.result true c.self.view_is c.accepted.ensures c.is_view.ensures
    c.if-not-is_view.false

pub ack-requires : goal.ack-requires
ack-requires c =
    let n = c.self.inside in
    subst (λ k. c.args.top ≤ k)
    (top_led n.me n.mark n.horizon n.served n.duty n.state c.in-Leads.leader c.in-Leads.field-1
    c.args.self.now c.self.view_is c.in-Leads.is)
    (c.requires.top (in_view_led n.me n.mark n.horizon n.served n.duty n.state c.in-Leads.leader
    c.in-Leads.field-1 c.args.self.now (number_of_view c.args.view) c.self.view_is
    c.in-Leads.is (ours c)))

pub invariant_of-self-in-Ok : goal.invariant_of-self-in-Ok
invariant_of-self-in-Ok c =
    let n = c.self.inside in
    let l = c.in-Leads.leader in
    let s = led l (outer n.me n.mark n.horizon n.served n.duty c.in-Leads.field-1) in (
      c.self.invariant.0,
      leads_fits n.me n.mark n.horizon n.served n.duty l c.ack.new.self c.in-Leads.field-1 n.state 0
          (on_ack s s.accepted c.args.top c.args.lb c.args.until) c.in-Leads.is
          c.self.invariant.1 (quiet_ack s s.accepted c.args.top c.args.lb c.args.until)
          (c.in-Ok.ensures.makes
          (outer n.me n.mark n.horizon n.served n.duty c.in-Leads.field-1) 0).state,
    )

pub returns-in-Ok-clause-makes : goal.returns-in-Ok-clause-makes
returns-in-Ok-clause-makes c items clock =
    let n = c.self.inside in
    let l = c.in-Leads.leader in
    let o = outer n.me n.mark n.horizon n.served n.duty c.in-Leads.field-1 in
    let v = number_of_view c.args.view in
    let now = c.args.self.now in
    let test = accepted_test n.me n.mark n.horizon n.served n.duty n.state now c.args.view
    c.accepted.result c.is_view.result true c.self.view_is c.accepted.ensures c.is_view.ensures
    c.if-not-is_view.false in
    subst (λ (w : ℕ). Makes now.me clock
    (on_ack (server now items) w c.args.top c.args.lb c.args.until) now.peers (server now items)
    (server (value n.me n.mark n.horizon n.served n.duty
    (state.Leads c.ack.new.self c.in-Leads.field-1)) items) c.args.outs.now c.ack.new.outs)
    (sym (eqb-true v now.plain.accepted test))
    (leads_made n.me n.mark n.horizon n.served n.duty l c.ack.new.self c.in-Leads.field-1 n.state
    now items clock (λ q t. on_ack t t.accepted c.args.top c.args.lb c.args.until) (λ x. x.peers)
    c.args.outs.now c.ack.new.outs c.in-Leads.is c.self.view_is c.self.invariant.1
    (quiet_ack (led l o) (led l o).accepted c.args.top c.args.lb c.args.until)
    (c.in-Ok.ensures.makes o clock))

pub returns-then-not-is_view-clause-stock : goal.returns-then-not-is_view-clause-stock
returns-then-not-is_view-clause-stock c items =
    let n = c.self.inside in
    let now = c.args.self.now in
    stocks_so [] now.me (server now items) _ [] (stock now) (stock now)
    (other_view_ack (server now items) (number_of_view c.args.view) c.args.top c.args.lb
    c.args.until
    (accepted_test n.me n.mark n.horizon n.served n.duty n.state now c.args.view
    c.accepted.result c.is_view.result false c.self.view_is c.accepted.ensures c.is_view.ensures
    c.if-not-is_view.true)) (λ clock list askers. refl)

pub returns-in_default-clause-stock : goal.returns-in_default-clause-stock
returns-in_default-clause-stock c items =
    let n = c.self.inside in
    let now = c.args.self.now in
    let led = no_leader n.state c.in_default.not-Leads in
    stocks_so [] now.me (server now items) _ [] (stock now) (stock_in n.state)
    (heeds_none (server now items) (number_of_view c.args.view) c.args.top c.args.lb c.args.until
    (not_open n.me n.mark n.horizon n.served n.duty n.state now c.self.view_is led))
    (λ clock list askers. ap stock c.self.view_is)

pub returns-in-Ok-clause-stock : goal.returns-in-Ok-clause-stock
returns-in-Ok-clause-stock c items =
    let n = c.self.inside in
    ack_stock n.me n.mark n.horizon n.served n.duty items n.state c.in-Leads.leader c.ack.new.self
    c.in-Leads.field-1 c.args.self.now (number_of_view c.args.view) c.args.top c.args.lb
    c.args.until c.in-Leads.is c.self.view_is
    (accepted_test n.me n.mark n.horizon n.served n.duty n.state c.args.self.now c.args.view
    c.accepted.result c.is_view.result true c.self.view_is c.accepted.ensures c.is_view.ensures
    c.if-not-is_view.false)
    (ap (λ (g : LogValue). g.records) c.in-Ok.ensures.log) c.in-Ok.ensures.peers
    c.in-Ok.ensures.still
