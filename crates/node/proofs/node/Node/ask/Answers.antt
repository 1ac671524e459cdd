use Rattle.std.proofs.Common.{sym, subst, ap, le_refl, refl, ◌∙◌}
use Rattle.group_rules.specs.Names.{place_of}
use Rattle.harp_store.specs.Disk.{cells_told}
use Rattle.idle_log.specs.Kept.{plan_of}
use Rattle.node.proofs.Faults.{once_done, once_memory, once_read}
use Rattle.node.proofs.Heeds.{no_leader}
use Rattle.node.proofs.Asks.{asked_led, cached_at, grown_leads, reads_so, refuses_away}
use Rattle.node.specs.State.{Fits, outer, pulled_in}
use Rattle.node.specs.declared.state.State.{State}
use Rattle.node.specs.declared.state.State.TheVariants as state
use Rattle.node.specs.Node.{NodeValue}
use Rattle.node.proofs.node.Node.ask.Goals as goal

pub returns-in_default-clause-asked : goal.returns-in_default-clause-asked
returns-in_default-clause-asked g c items list holds =
    let n = c.self.inside in
    let k = c.args.asker in
    let led = no_leader n.state c.in_default.not-Leads in
    refuses_away n.me n.mark n.horizon n.served n.duty n.state c.args.self.now c.args.now
    list k.client k.number k.cred c.args.call.now k.peer items c.role.result c.args.outs.now
    c.turn_away.new.outs c.self.view_is c.self.invariant.1 led c.role.ensures
    c.in_ok-turn_away.ensures.said c.turn_away.ensures.records

pub ask-requires-clause-cached : goal.ask-requires-clause-cached
ask-requires-clause-cached g c =
    let n = c.self.inside in
    cached_at n.me n.mark n.horizon n.served n.duty n.state
    (state.Leads c.in-Leads.leader c.in-Leads.field-1) c.args.self.now
    (cells_told (g.D.Store.told c.args.store.now)) c.self.view_is
    (sym c.in-Leads.is) c.requires.cached

pub invariant_of-self-in_err-ask : goal.invariant_of-self-in_err-ask
invariant_of-self-in_err-ask g c =
    let n = c.self.inside in (
      c.self.invariant.0,
      grown_leads (place_of n.me) n.mark c.in-Leads.leader c.ask.new.self
          (plan_of c.in-Leads.field-1) c.ask.ensures.grown
          (subst (λ (s : State). Fits (place_of n.me) n.mark s) c.in-Leads.is c.self.invariant.1),
    )

pub invariant_of-self-2 : goal.invariant_of-self-2
invariant_of-self-2 g c =
    let n = c.self.inside in (
      c.self.invariant.0,
      grown_leads (place_of n.me) n.mark c.in-Leads.leader c.ask.new.self
          (plan_of c.in-Leads.field-1) c.ask.ensures.grown
          (subst (λ (s : State). Fits (place_of n.me) n.mark s) c.in-Leads.is c.self.invariant.1),
    )

pub returns-clause-asked : goal.returns-clause-asked
returns-clause-asked g c items list holds =
    let n = c.self.inside in
    let k = c.args.asker in
    let l = c.in-Leads.leader in
    let at = c.in-Leads.is in
    asked_led n.me n.mark n.horizon n.served n.duty l c.ask.new.self c.in-Leads.field-1 n.state
    c.args.self.now c.args.now list k.client k.number k.cred c.args.call.now k.peer items
    c.args.outs.now c.ask.new.outs at c.self.view_is c.self.invariant.1
    (c.in_ok-ask.ensures.asked (outer n.me n.mark n.horizon n.served n.duty c.in-Leads.field-1) list
    (reads_so n.me n.mark n.horizon n.served n.duty l c.in-Leads.field-1 n.state c.args.self.now
    list k.client c.args.call.now c.args.now (g.D.Store.told c.args.store.now) at c.self.view_is
    c.self.invariant.1 holds))

pub returns-in_default-clause-pulled : goal.returns-in_default-clause-pulled
returns-in_default-clause-pulled g c = ap (λ (n : NodeValue). n.pulled) c.self.view_is

pub returns-clause-pulled : goal.returns-clause-pulled
returns-clause-pulled g c = ap pulled_in (sym c.in-Leads.is)
    ∙ ap (λ (n : NodeValue). n.pulled) c.self.view_is

-- ---- whether the server goes on, its mark and its disk, and the store's faults

pub returns-in_default-clause-keeps : goal.returns-in_default-clause-keeps
returns-in_default-clause-keeps g c = record {
  me = ap (λ (n : NodeValue). n.me) c.self.view_is;
  mark = ap (λ (n : NodeValue). n.mark) c.self.view_is;
  kept = refl;
}

pub returns-in_default-clause-runs : goal.returns-in_default-clause-runs
returns-in_default-clause-runs g c =
    let n = c.self.inside in record {
      up = ap (λ (n : NodeValue). n.halted) c.self.view_is ∙ c.requires.up;
      cached = cached_at n.me n.mark n.horizon n.served n.duty n.state n.state c.args.self.now
          (cells_told (g.D.Store.told c.args.store.now)) c.self.view_is refl c.requires.cached;
    }

pub returns-in_default-clause-faults : goal.returns-in_default-clause-faults
returns-in_default-clause-faults g c = once_done _ _ _ (le_refl _)

pub returns-in_err-turn_away-clause-keeps : goal.returns-in_err-turn_away-clause-keeps
returns-in_err-turn_away-clause-keeps g c = record {
  me = ap (λ (n : NodeValue). n.me) c.self.view_is;
  mark = ap (λ (n : NodeValue). n.mark) c.self.view_is;
  kept = refl;
}

pub returns-in_err-turn_away-clause-faults : goal.returns-in_err-turn_away-clause-faults
returns-in_err-turn_away-clause-faults g c = once_memory _ _ _ c.from_residual.ensures.1 (le_refl _)

pub returns-in_err-ask-clause-keeps : goal.returns-in_err-ask-clause-keeps
returns-in_err-ask-clause-keeps g c = record {
  me = ap (λ (n : NodeValue). n.me) c.self.view_is;
  mark = ap (λ (n : NodeValue). n.mark) c.self.view_is;
  kept = c.ask.ensures.kept;
}

pub returns-in_err-ask-clause-faults : goal.returns-in_err-ask-clause-faults
returns-in_err-ask-clause-faults g c = once_read c.from_residual-in_err-ask.result
    c.in_err-ask.field-0.0 c.ask.result _ _ c.from_residual-in_err-ask.ensures.1 c.in_err-ask.was
    c.ask.ensures.rose c.ask.ensures.count

pub returns-clause-keeps : goal.returns-clause-keeps
returns-clause-keeps g c = record {
  me = ap (λ (n : NodeValue). n.me) c.self.view_is;
  mark = ap (λ (n : NodeValue). n.mark) c.self.view_is;
  kept = c.ask.ensures.kept;
}

pub returns-clause-runs : goal.returns-clause-runs
returns-clause-runs g c = record { up = refl; cached = c.ask.ensures.cached }

pub returns-clause-faults : goal.returns-clause-faults
returns-clause-faults g c = once_done _ _ _ c.ask.ensures.count
