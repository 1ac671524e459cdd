use Rattle.std.proofs.Common.{ℕ, sym, ap, ◌∙◌, arith}
use Rattle.trace_claims.specs.Trace.{entry_of}
use Rattle.trace_check.specs.Marks.{mark_at}
use Rattle.trace_check.proofs.HistoryLemmas.{first_number, number_rises, stamp_falls}
use Rattle.trace_check.proofs.history.History.is_next_update.Goals as goal

pub returns-then-entry-self : goal.returns-then-entry-self
returns-then-entry-self c entries h book u =
    stamp_falls c.args.self.now entries (entry_of c.args.entry.now) h book u c.if-entry-self.true

pub returns-in-Some : goal.returns-in-Some
returns-in-Some c entries h book u =
    let zero = c.if-entry-eq0.false in
    let place = c.if-entry-len.false in
    let len = c.len.ensures in
    let at = sym c.get.ensures ∙ c.in-Some.is in
    number_rises c.args.self.now entries (entry_of c.args.entry.now) c.in-Some.last h book u
    c.if-entry-eq0.false (omega (arith, place, len)) c.if-entry-self.false
    (ap (λ (n : ℕ). mark_at c.args.self.now.numbers (n, 0, 0, 0)) (sym c.from.ensures) ∙ at)

pub returns-in-None : goal.returns-in-None
returns-in-None c entries h book u =
    let place = c.if-entry-len.false in
    let len = c.len.ensures in
    let at = sym c.get.ensures ∙ c.in-None.is in
    first_number c.args.self.now entries (entry_of c.args.entry.now) h book u
    c.if-entry-eq0.false (omega (arith, place, len)) c.if-entry-self.false
    (ap (λ (n : ℕ). mark_at c.args.self.now.numbers (n, 0, 0, 0)) (sym c.from.ensures) ∙ at)
