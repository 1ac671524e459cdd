-- The texts of observed traces and of their parts.
use Rattle.std.proofs.Common.{◌≡◌, ℕ, List, [], ◌∷◌, ◌++◌, append_assoc, append-nil, refl, sym, ap}
use Rattle.std.proofs.Common.{◌∙◌}
use Rattle.std.specs.Prelude.{map}
use Rattle.std.proofs.lemmas.Grind.{flat_map-append}
use Rattle.trace_claims.specs.Trace.{Trace}
use Rattle.text_spelling.specs.TraceLines.{line_text}
use Rattle.schedule_play.specs.Trace.{trace_text}
use Rattle.observed_text.specs.declared.line.ObservedLine.{ObservedLine}
use Rattle.observed_text.specs.declared.line.ObservedLine.TheVariants as line
use Rattle.observed_text.specs.Spelling.{observed_line}
use Rattle.observe_laws.specs.Trace.{ObservedTrace, observed_trace_text}

pub observed_trace_text-append : (xs ys : ObservedTrace)
    → observed_trace_text (xs ++ ys) ≡ observed_trace_text xs ++ observed_trace_text ys
unfolding observed_trace_text
observed_trace_text-append xs ys = flat_map-append (λ l. observed_line l ++ 10 ∷ []) xs ys

-- lines of a trace have the same text in both
pub traced_text : (ls : Trace) → observed_trace_text (map line.Traced ls) ≡ trace_text ls
unfolding observed_trace_text observed_line trace_text
traced_text [] = refl
traced_text (l ∷ ls) = ap (λ (t : List ℕ). (line_text l ++ 10 ∷ []) ++ t) (traced_text ls)

-- a line behind what was made, with its line feed
pub one-line : (made : List ℕ) (l : ObservedLine)
    → (made ++ observed_line l) ++ 10 ∷ [] ≡ made ++ observed_trace_text (l ∷ [])
unfolding observed_trace_text
one-line made l =
    append_assoc made (observed_line l) (10 ∷ [])
    ∙ ap (λ (t : List ℕ). made ++ t) (sym (append-nil (observed_line l ++ 10 ∷ [])))

-- no line behind what was made
pub none-told : (made : List ℕ) → made ≡ made ++ observed_trace_text []
unfolding observed_trace_text
none-told made = sym (append-nil made)

-- some lines behind one, as each part was appended
pub one-told : (start mid out : List ℕ) (l : ObservedLine) (ls : ObservedTrace) → start ≡ []
    → mid ≡ start ++ observed_trace_text (l ∷ []) → out ≡ mid ++ observed_trace_text ls
    → out ≡ observed_trace_text (l ∷ ls)
one-told start mid out l ls none first others =
    let begun : mid ≡ observed_trace_text (l ∷ []) =
    first ∙ ap (λ (s : List ℕ). s ++ observed_trace_text (l ∷ [])) none in
    others ∙ ap (λ (s : List ℕ). s ++ observed_trace_text ls) begun
    ∙ sym (observed_trace_text-append (l ∷ []) ls)
