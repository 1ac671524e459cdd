-- Traces that are put together of parts.
use Rattle.std.proofs.Common.{◌≡◌, [], ◌∷◌, ◌++◌, sym, subst, append_assoc, None, fold}
use Rattle.std.specs.List.{AllByRecursion}
use Rattle.std.proofs.lemmas.List.{append-nil}
use Rattle.std.proofs.lemmas.List.Sums.{fold-append}
use Rattle.std.proofs.lemmas.Grind.{flat_map-append}
use Rattle.trace_types.specs.declared.line.Line.{Line}
use Rattle.trace_claims.specs.Trace.{Trace, entered_by, entries, step_of_line, steps, later_step, step_under_way, AtPlacesAfter}

pub entries-append : (xs ys : Trace) → entries (xs ++ ys) ≡ entries xs ++ entries ys
entries-append xs ys = flat_map-append entered_by xs ys

pub steps-append : (xs ys : Trace) → steps (xs ++ ys) ≡ steps xs ++ steps ys
steps-append xs ys = flat_map-append step_of_line xs ys

pub step_under_way-append : (xs ys : Trace) → step_under_way (xs ++ ys) ≡
    fold later_step (step_under_way xs) ys
step_under_way-append xs ys = fold-append later_step None xs ys

-- a fact of each place of two parts
pub places-append : (P : Trace → Line → Type 0) (before xs ys : Trace) → AtPlacesAfter P before xs
    → AtPlacesAfter P (before ++ xs) ys
    → AtPlacesAfter P before (xs ++ ys)
places-append P before [] ys p q = subst (λ b. AtPlacesAfter P b ys) (append-nil before) q
places-append P before (x ∷ xs) ys p q = (
  p.0,
  places-append P (before ++ x ∷ []) xs ys p.1 (subst (λ b. AtPlacesAfter P b ys)
      (sym (append_assoc before (x ∷ []) xs)) q),
)

pub all-append : (P : Line → Type 0) (xs ys : Trace) → AllByRecursion P xs → AllByRecursion P ys
    → AllByRecursion P (xs ++ ys)
all-append P [] ys p q = q
all-append P (x ∷ xs) ys p q = (p.0, all-append P xs ys p.1 q)
