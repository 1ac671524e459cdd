-- A judge that takes one more line.
use Rattle.std.proofs.Common.{◌≡◌, ℕ, ◌+◌, ◌≤◌, Bool, true, false, List, [], ◌∷◌, ◌++◌, length, refl, sym, ap, subst, ◌∙◌, arith}
use Rattle.std.specs.Prelude.{fold}
use Rattle.std.proofs.lemmas.List.{length-append}
use Rattle.std.proofs.lemmas.List.Sums.{fold-append}
use Rattle.trace_text.specs.Grammar.{IsTraceLine}
use Rattle.trace_types.specs.declared.line.Line.{Line}
use Rattle.trace_claims.specs.Trace.{AtEachPlace, Trace, is_last}
use Rattle.trace_check.proofs.BreachLaws.{each_push}
use Rattle.trace_check.specs.Breaches.{IsFirst}
use Rattle.trace_check.specs.Checker.{Saw}
use Rattle.trace_check.specs.declared.breach.Breach.{Breach}
use Rattle.trace_verdict.specs.declared.judge.Judge.{Judge}
use Rattle.trace_verdict.specs.Judging.{BreaksAlone, HasTaken, MeanOnly, MeansOnly, TakesOn}
use Rattle.trace_verdict.specs.Places.{CanFollow, has_ended}

mean_push : (taken : List (List ℕ)) (before : Trace) (text : List ℕ) (l : Line)
    → MeanOnly taken before → MeansOnly text l → MeanOnly (taken ++ text ∷ []) (before ++ l ∷ [])
mean_push [] [] text l h m = (m, tt)
mean_push [] (x ∷ before) text l h m = absurd h
mean_push (t ∷ taken) [] text l h m = absurd h
mean_push (t ∷ taken) (x ∷ before) text l h m = (h.0, mean_push taken before text l h.1 m)

pub ended_push : (before : Trace) (l : Line) → has_ended (before ++ l ∷ []) ≡ is_last l
ended_push before l = fold-append (λ (ended : Bool) (x : Line). is_last x) false before (l ∷ [])

pub breaks_here : (j : Judge) (taken : List (List ℕ)) (before : Trace) (text : List ℕ) (l : Line)
    (b : Breach) → HasTaken j taken before → MeansOnly text l → CanFollow before l
    → IsFirst b before l → (j.lines + 1 ≡ length before + 1) × BreaksAlone before text b
breaks_here j taken before text l b took only follows first = (
  ap (λ (n : ℕ). n + 1) took.lines,
  record { means = l; only = only; follows = follows; first = first },
)

pub takes_here : (old new : Judge) (taken : List (List ℕ)) (before : Trace) (text : List ℕ)
    (l : Line) → HasTaken old taken before → MeansOnly text l → CanFollow before l
    → Saw new.checker (before ++ l ∷ []) → new.lines ≡ old.lines + 1 → new.ended ≡ is_last l
    → TakesOn new taken before text
takes_here old new taken before text l took means follows saw lines ended = record {
  means = l;
  took = record {
    means = mean_push taken before text l took.means means;
    saw = saw;
    placed = (each_push CanFollow before l).1 (took.placed, follows);
    lines = lines ∙ omega (arith, took.lines, length-append before (l ∷ []));
    ended = ended ∙ sym (ended_push before l);
  };
}
