use Rattle.std.proofs.Common.{sym, ◌∙◌}
use Rattle.trace_claims.specs.Servers.{clock_after}
use Rattle.trace_check.proofs.CheckerLemmas.{promised_here}
use Rattle.trace_check.proofs.checker.has_promise.Goals as goal

pub returns : goal.returns
returns c before s n k =
    let is = sym (s.last c.args.server) ∙ sym c.last.ensures ∙ c.in-Some.is in
    let p = promised_here before c.args.server c.in-Some.state c.in-Leads.partner is
    c.in-Leads.is in
    let q = c.has_promised.ensures (clock_after before c.args.server)
    (c.read.ensures ∙ k c.args.server) in
    let r = n.moments c.in-Leads.partner c.args.server c.in-Some.state.accepted
    (clock_after before c.args.server) in
    (λ t. p.1 (r.0 (q.0 t)), λ h. q.1 (r.1 (p.0 h)))
