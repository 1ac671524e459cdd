use Rattle.std.proofs.Common.{◌≡◌, ◌++◌, ◌∷◌, [], sym, ap, ◌∙◌, append_assoc, drop, length, List, ℕ}
use Rattle.std.proofs.Common.{get_or, ◌+◌, ◌<◌}
use Rattle.std.proofs.lemmas.List.{at_drop_more, at_drop_all, append-nil}
use Rattle.trace_types.specs.declared.line.Line.{Line}
use Rattle.trace_claims.specs.Trace.{Trace}
use Rattle.text_spelling.specs.TraceLines.{line_text}
use Rattle.schedule_play.specs.Trace.{trace_text}
use Rattle.schedule_play.proofs.TraceTexts.{trace_text-cons}
use Rattle.schedule_play.proofs.text.append_lines.Goals as goal

-- the text of a line goes from what is left to what was made
moved : (made : List ℕ) (lines : Trace) (i : ℕ) (x : Line) (all : List ℕ) → i < length lines
    → x ≡ get_or lines i x
    → made ++ trace_text (drop i lines) ≡ all → ((made ++ line_text x) ++ 10 ∷ []) ++ trace_text
    (drop (i + 1) lines) ≡ all
moved made lines i x all below is h =
    let later = trace_text (drop (i + 1) lines) in
    let next : trace_text (drop i lines) ≡ (line_text x ++ 10 ∷ []) ++ later =
    at_drop_more trace_text lines i x below ∙ ap (λ (y : Line). trace_text (y ∷ drop (i + 1) lines))
    (sym is)
    ∙ trace_text-cons x (drop (i + 1) lines) in
    ap (λ s. s ++ later) (append_assoc made (line_text x) (10 ∷ [])) ∙ append_assoc made
    (line_text x ++ 10 ∷ []) later ∙ ap (λ s. made ++ s) (sym next) ∙ h

pub loop-line-preserved : goal.loop-line-preserved
loop-line-preserved c =
    rw (c.in_ok-push.ensures.items, c.in_ok-append_line.ensures)
    (moved c.loop-line.out.items c.args.lines.now c.loop-line.line-index c.line-item.result _
    c.loop-line-test.true
    c.line-item.is c.loop-line.invariant)

pub returns : goal.returns
unfolding trace_text
returns c =
    let none = at_drop_all trace_text c.args.lines.now c.loop-line.line-index c.loop-line-test.false
    in
    sym (append-nil c.loop-line.out.items) ∙ ap (λ s. c.loop-line.out.items ++ s) (sym none)
    ∙ c.loop-line.invariant
