use Rattle.std.proofs.Common.{refl, ◌≡◌, ◌++◌, ◌∷◌, [], sym, ap, ◌∙◌, append_assoc, drop, length, List, ℕ}
use Rattle.std.proofs.Common.{get_or, ◌+◌, ◌<◌}
use Rattle.std.proofs.lemmas.List.{at_drop_more, at_drop_all, append-nil}
use Rattle.trace_types.specs.declared.line.Line.{Line}
use Rattle.text_spelling.specs.TraceLines.{line_text}
use Rattle.audit_verdict.specs.Texts.{lines_text}
use Rattle.audit_verdict.proofs.text.put_lines.Goals as goal

lines_text-cons : (l : Line) (ls : List Line)
    → lines_text (l ∷ ls) ≡ (line_text l ++ 10 ∷ []) ++ lines_text ls
unfolding lines_text
lines_text-cons l ls = refl

-- the text of a line goes from what is left to what was made
moved : (made : List ℕ) (lines : List Line) (i : ℕ) (x : Line) (all : List ℕ) → i < length lines
    → x ≡ get_or lines i x
    → made ++ lines_text (drop i lines) ≡ all → ((made ++ line_text x) ++ 10 ∷ []) ++ lines_text
    (drop (i + 1) lines) ≡ all
moved made lines i x all below is h =
    let later = lines_text (drop (i + 1) lines) in
    let next : lines_text (drop i lines) ≡ (line_text x ++ 10 ∷ []) ++ later =
    at_drop_more lines_text lines i x below ∙ ap (λ (y : Line). lines_text (y ∷ drop (i + 1) lines))
    (sym is)
    ∙ lines_text-cons x (drop (i + 1) lines) in
    ap (λ s. s ++ later) (append_assoc made (line_text x) (10 ∷ [])) ∙ append_assoc made
    (line_text x ++ 10 ∷ []) later ∙ ap (λ s. made ++ s) (sym next) ∙ h

pub loop-line-preserved : goal.loop-line-preserved
loop-line-preserved c =
    rw (c.in_ok-push.ensures.items, c.in_ok-append_line.ensures)
    (moved c.loop-line.out.items c.args.lines.now c.loop-line.line-index c.line-item.result _
    c.loop-line-test.true
    c.line-item.is c.loop-line.invariant)

pub returns : goal.returns
unfolding lines_text
returns c =
    let none = at_drop_all lines_text c.args.lines.now c.loop-line.line-index c.loop-line-test.false
    in
    sym (append-nil c.loop-line.out.items) ∙ ap (λ s. c.loop-line.out.items ++ s) (sym none)
    ∙ c.loop-line.invariant
