-- The texts of traces and of their parts.
use Rattle.std.proofs.Common.{◌≡◌, ℕ, ◌+◌, List, [], ◌∷◌, ◌++◌, append-nil, length, take, refl, sym, ap, ◌∙◌, subst, append_assoc, Option, Some, None, arith, inl, inr}
use Rattle.std.specs.Io.KnownBytes.{Appends}
use Rattle.std.specs.Prelude.{codes, decimal}
use Rattle.std.proofs.lemmas.List.{take-append-le, take_all}
use Rattle.std.proofs.Math.Seq.{take-append_seam, take-append-add}
use Rattle.std.proofs.lemmas.Bool.{cases_lt}
use Rattle.std.proofs.lemmas.Grind.{flat_map-append}
use Rattle.harp_types.specs.Streams.{GrewByPart}
use Rattle.trace_types.specs.declared.line.Line.{Line}
use Rattle.trace_types.specs.declared.line.Line.TheVariants as line
use Rattle.trace_types.specs.declared.step.Step.{Step}
use Rattle.trace_types.specs.declared.step.Step.TheVariants as steps
use Rattle.trace_claims.specs.Trace.{Trace}
use Rattle.text_spelling.specs.TraceLines.{line_text}
use Rattle.text_spelling.specs.Steps.{step_text}
use Rattle.text_spelling.specs.Text.{spaced}
use Rattle.schedule_play.specs.Trace.{trace_text}

pub trace_text-append : (xs ys : Trace) → trace_text (xs ++ ys) ≡ trace_text xs ++ trace_text ys
unfolding trace_text
trace_text-append xs ys = flat_map-append (λ l. line_text l ++ 10 ∷ []) xs ys

pub trace_text-cons : (l : Line) (ls : Trace) → trace_text (l ∷ ls) ≡ (line_text l ++ 10 ∷ [])
    ++ trace_text ls
unfolding trace_text
trace_text-cons l ls = refl

-- the event line of the step that a line spells
pub event-text : (spelled : List ℕ) (s : Step) → spelled ≡ step_text s
    → (62 ∷ 32 ∷ spelled) ++ 10 ∷ [] ≡ trace_text (line.Event s ∷ [])
unfolding trace_text line_text
event-text spelled s is =
    ap (λ t. (62 ∷ 32 ∷ t) ++ 10 ∷ []) is
    ∙ sym (append-nil ((62 ∷ 32 ∷ step_text s) ++ 10 ∷ []))

-- and that of a delivery
pub delivery-text : (packet : ℕ) → (codes "> deliver" ++ spaced (decimal packet)) ++ 10 ∷ []
    ≡ trace_text (line.Event (steps.Deliver packet) ∷ [])
unfolding step_text
delivery-text packet = event-text (codes "deliver" ++ spaced (decimal packet))
    (steps.Deliver packet) refl

-- what is appended in two writes
pub appends-twice : (a b c : Option (List ℕ)) (x y : List ℕ) → Appends a b x → Appends b c y
    → Appends a c (x ++ y)
appends-twice None b c x y p q = tt
appends-twice (Some a) None c x y p q = absurd p
appends-twice (Some a) (Some b) None x y p q = absurd q
appends-twice (Some a) (Some b) (Some c) x y p q = q ∙ ap (λ s. s ++ y) p ∙ append_assoc a x y

-- a first part of a text of two
pub grew-first : (a b : Option (List ℕ)) (x y : List ℕ) → Appends a b x → GrewByPart a b (x ++ y)
grew-first a b x y p =
    let whole : x ≡ take (length x) (x ++ y) = sym (take-append_seam x y) in
    (length x, subst (Appends a b) whole p)

-- a first part of the second of two, after the first
pub grew-second : (a b c : Option (List ℕ)) (x y : List ℕ) → Appends a b x → GrewByPart b c y
    → GrewByPart a c (x ++ y)
grew-second a b c x y p q =
    let whole : x ++ take q.0 y ≡ take (length x + q.0) (x ++ y) = sym (take-append-add x y q.0) in
    (length x + q.0, subst (Appends a c) whole (appends-twice a b c x (take q.0 y) p q.1))

-- a first part of the first of two
pub grew-more : (a b : Option (List ℕ)) (x y : List ℕ) → GrewByPart a b x → GrewByPart a b (x ++ y)
grew-more a b x y q = elim (cases_lt (length x) q.0) [
  | inl past ↦ grew-first a b x y (subst (Appends a b) (take_all q.0 x (omega arith)) q.1)
  | inr within ↦ (q.0, subst (Appends a b) (sym (take-append-le q.0 x y within)) q.1)
]
