use Rattle.std.proofs.Common.{◌≡◌, ◌<◌, ◌+◌, ◌-◌, true, false, [], ◌∷◌, sym, ap, arith, ◌∙◌, length, length-append}
use Rattle.schedule_text.specs.Reading.{is_digit_at}
use Rattle.trace_text.specs.Replies.{entries_at}
use Rattle.trace_text.proofs.Turns.{after_entries, entries_done, entries_full, entries_more, entries_fault, handed_on}
use Rattle.trace_text.proofs.reply.entries_at.Goals as goal

pub returns-then-not-is_digit_at-clause-step : goal.returns-then-not-is_digit_at-clause-step
returns-then-not-is_digit_at-clause-step c =
    let none : is_digit_at c.args.line.now (c.loop-k.at + 1) ≡ false =
    sym c.is_digit_at.ensures ∙ c.if-not-is_digit_at.true in
    entries_done (65535 - c.loop-k._k) c.loop-k.entries.items c.args.line.now c.loop-k.at _
    c.loop-k.invariant.step none

pub returns-in_err-entry-clause-step : goal.returns-in_err-entry-clause-step
returns-in_err-entry-clause-step c =
    let h = c.from_residual.ensures in
    let left : 0 < 65535 - c.loop-k._k = omega (arith, c.loop-k-test.true) in
    let digit : is_digit_at c.args.line.now (c.loop-k.at + 1) ≡ true =
    sym c.is_digit_at.ensures ∙ c.if-not-is_digit_at.false in
    handed_on _ c.from_residual.result c.in_err-entry.field-0.0 _ h.0 h.1
    (entries_fault c.in_err-entry.field-0.0 (65535 - c.loop-k._k) c.loop-k.entries.items
    c.args.line.now c.loop-k.at _ c.loop-k.invariant.step left digit c.in_err-entry.ensures.step)

pub loop-k-preserved : goal.loop-k-preserved
loop-k-preserved c =
    let line = c.args.line.now in
    let done = c.loop-k.entries.items in
    let items = c.in_ok-push.ensures.items in
    let left : 0 < 65535 - c.loop-k._k = omega (arith, c.loop-k-test.true) in
    let one : 65535 - c.loop-k._k - 1 ≡ 65535 - (c.loop-k._k + 1) = omega arith in
    let digit : is_digit_at line (c.loop-k.at + 1) ≡ true =
    sym c.is_digit_at.ensures ∙ c.if-not-is_digit_at.false in
    let more = entries_more (65535 - c.loop-k._k) done line c.loop-k.at c.in_ok-entry.entry
    c.in_ok-entry.next left digit c.in_ok-entry.ensures.step in
    record {
      count = omega (
        arith,
        ap length items,
        length-append done (c.in_ok-entry.entry ∷ []),
        c.loop-k.invariant.count,
      );
      within = c.in_ok-entry.ensures.within;
      step = c.loop-k.invariant.step ∙ more
          ∙ (λ i. after_entries (sym items i) (entries_at (one i) line c.in_ok-entry.next));
    }

pub returns-clause-step : goal.returns-clause-step
returns-clause-step c =
    entries_full (65535 - c.loop-k._k) c.loop-k.entries.items c.args.line.now c.loop-k.at _
    c.loop-k.invariant.step (omega (arith, c.loop-k-test.false))
