-- Runs of a sweep, made one after another.
use Rattle.std.proofs.Common.{◌≡◌, ℕ, ◌+◌, ◌-◌, List, [], ◌∷◌, ◌++◌, map, Result, Ok, Err, IfOk, MatchResult, refl, sym, ap, subst, ◌∙◌, arith}
use Rattle.std.specs.List.{AllZip, range_with_len}
use Rattle.std.proofs.lemmas.List.FromFn.{map-range_with_len_more}
use Rattle.trace_types.specs.declared.step.Step.{Step}
use Rattle.sweep.specs.declared.summary.Summary.{Summary}
use Rattle.std.specs.declared.alloc.AllocError.{AllocError}
use Rattle.sweep.specs.Lines.{generated}
use Rattle.sweep.specs.Runs.{summaries}

pub one_run : (summary_of : List Step → Summary) (seed run number lines : ℕ) (all : List Summary)
    (summary : Summary) → number ≡ run → summary ≡ summary_of (generated (seed + number) lines)
    → all ≡ summaries summary_of seed run lines
    → all ++ summary ∷ [] ≡ summaries summary_of seed (run + 1) lines
one_run summary_of seed run number lines all summary same played h =
    let this : summary ≡ summary_of (generated (seed + run) lines) =
    played ∙ ap (λ n. summary_of (generated (seed + n) lines)) same in
    ap (λ a. a ++ summary ∷ []) h
    ∙ ap (λ s. summaries summary_of seed run lines ++ s ∷ []) this
    ∙ sym (map-range_with_len_more (λ n. summary_of (generated (seed + n) lines)) 0 run run
    (omega arith))

-- where each run came to its summary, in order
all_runs : (summary_of : ℕ → Summary) (runs : List ℕ) (all : List Summary)
    → AllZip (λ run (result : Result Summary AllocError). IfOk result
    (λ summary. summary ≡ summary_of run)) runs (map Ok all)
    → all ≡ map summary_of runs
all_runs summary_of [] [] each = refl
all_runs summary_of [] (summary ∷ all) each = elim each [ ]
all_runs summary_of (run ∷ runs) [] each = elim each [ ]
all_runs summary_of (run ∷ runs) (summary ∷ all) each =
    ap (λ s. s ∷ all) each.0 ∙ ap (λ a. summary_of run ∷ a) (all_runs summary_of runs all each.1)

-- the results of all runs, seen through the numbers of the runs
pub many_runs : (summary_of : ℕ → Summary) (runs : ℕ) (numbers : List ℕ)
    (results : List (Result Summary AllocError)) (all summaries : List Summary)
    → all ≡ summaries → results ≡ map Ok summaries
    → AllZip (λ run (result : Result Summary AllocError). IfOk result
    (λ summary. summary ≡ summary_of run)) numbers results
    → numbers ≡ range_with_len 0 (runs - 0) → all ≡ map summary_of (range_with_len 0 runs)
many_runs summary_of runs numbers results all summaries same oks each range =
    let whole : runs - 0 ≡ runs = omega arith in
    let Played : List (Result Summary AllocError) → Type 0 = AllZip
    (λ run (result : Result Summary AllocError). IfOk result
    (λ summary. summary ≡ summary_of run)) numbers in
    same ∙ all_runs summary_of numbers summaries (subst Played oks each)
    ∙ ap (map summary_of) (range ∙ ap (range_with_len 0) whole)

pub if_ok : {V E : Type 0} (result : Result V E) (P S : V → Type 0) (Q : E → Type 0)
    → ((v : V) → P v → S v) → MatchResult result P Q → IfOk result S
if_ok (Ok v) P S Q leads h = leads v h
if_ok (Err e) P S Q leads h = tt
