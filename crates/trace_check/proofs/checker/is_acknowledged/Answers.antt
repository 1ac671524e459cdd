use Rattle.std.proofs.Common.{◌≡◌, true, false, inl, inr, sym, ◌∙◌}
use Rattle.trace_check.proofs.CheckerLemmas.{acks_here, opening_is}
use Rattle.trace_check.proofs.checker.is_acknowledged.Goals as goal

pub returns-then-not-has_shown : goal.returns-then-not-has_shown
returns-then-not-has_shown c before s n =
    let is = sym (s.last c.args.server) ∙ sym c.last.ensures ∙ c.in-Some.is in
    let p = acks_here before c.args.server c.args.index c.in-Some.state c.in-Leads.partner is
    c.in-Leads.is in
    let hidden : c.has_shown.result ≡ false = c.if-not-has_shown.true in (
      λ t. absurd cc,
      λ h. sym hidden ∙ c.has_shown.ensures.1
          ((s.shown c.in-Leads.partner c.in-Some.state.accepted c.args.index).1 (p.0 h).0),
    )

pub returns : goal.returns
returns c before s n =
    let is = sym (s.last c.args.server) ∙ sym c.last.ensures ∙ c.in-Some.is in
    let p = acks_here before c.args.server c.args.index c.in-Some.state c.in-Leads.partner is
    c.in-Leads.is in
    let shown : c.has_shown.result ≡ true = c.if-not-has_shown.false in
    let o = opening_is c.args.servers.now before c.args.server c.in-Some.state.accepted
    c.args.index s in (
      λ t. p.1 (
        (s.shown c.in-Leads.partner c.in-Some.state.accepted c.args.index).0
            (c.has_shown.ensures.0 shown),
        inr (o.0 (c.has_opened_with.ensures.0 t)),
      ),
      λ h. elim (p.0 h).1 [
        | inl acked ↦ (let is_acked : c.has_acked.result ≡ true = c.has_acked.ensures.1
            ((n.tops c.in-Leads.partner c.args.server c.in-Some.state.accepted c.args.index).1
            acked) in
            let other : c.has_acked.result ≡ false = c.if-has_acked.false in
            absurd cc)
        | inr w ↦ c.has_opened_with.ensures.1 (o.1 w)
      ],
    )
