-- Texts that are made of lines.
use Rattle.std.proofs.Common.{◌≡◌, ℕ, ◌+◌, ◌<◌, ◌≤◌, List, [], ◌∷◌, ◌++◌, length, drop, get_or, refl, sym, ap, ◌∙◌, append_assoc, arith}
use Rattle.std.proofs.lemmas.List.{at_drop_more, at_drop_all, append-nil}
use Rattle.trace_types.specs.declared.step.Step.{Step}
use Rattle.text_spelling.specs.Steps.{step_text}
use Rattle.sweep.specs.declared.summary.Summary.{Summary}
use Rattle.sweep.specs.Texts.{schedule_text, run_text, runs_text}

-- the line of the next step goes from what is left to what is written
pub step-written : (before after all : List ℕ) (step : Step) (steps left : List Step)
    → steps ≡ step ∷ left → after ≡ before ++ step_text step ++ 10 ∷ []
    → before ++ schedule_text steps ≡ all → after ++ schedule_text left ≡ all
unfolding schedule_text
step-written before after all step steps left is ended h =
    let rest = schedule_text left in
    let next : schedule_text steps ≡ step_text step ++ 10 ∷ rest =
    ap schedule_text is ∙ append_assoc (step_text step) (10 ∷ []) rest in
    ap (λ s. s ++ rest) ended ∙ append_assoc (before ++ step_text step) (10 ∷ []) rest
    ∙ append_assoc before (step_text step) (10 ∷ rest) ∙ ap (λ s. before ++ s) (sym next) ∙ h

-- all steps are written
pub steps-written : (before all : List ℕ) (steps : List Step) → steps ≡ []
    → before ++ schedule_text steps ≡ all → before ≡ all
unfolding schedule_text
steps-written before all steps none h =
    sym (append-nil before) ∙ ap (λ ss. before ++ schedule_text ss) (sym none) ∙ h

runs_text-cons : (seed : ℕ) (summary : Summary) (all : List Summary)
    → runs_text seed (summary ∷ all) ≡ run_text seed summary ++ 10 ∷ runs_text (seed + 1) all
unfolding runs_text
runs_text-cons seed summary all = refl

-- the text of a run goes from what is left to what was made
pub one_run : (made : List ℕ) (seed : ℕ) (runs : List Summary) (i : ℕ) (none : Summary)
    (all : List ℕ) → i < length runs → made ++ runs_text (seed + i) (drop i runs) ≡ all
    → ((made ++ run_text (seed + i) (get_or runs i none)) ++ 10 ∷ [])
    ++ runs_text (seed + (i + 1)) (drop (i + 1) runs) ≡ all
one_run made seed runs i none all within h =
    let rest = drop (i + 1) runs in
    let text = run_text (seed + i) (get_or runs i none) in
    let later = runs_text (seed + (i + 1)) rest in
    let count : seed + i + 1 ≡ seed + (i + 1) = omega arith in
    let next : runs_text (seed + i) (drop i runs) ≡ text ++ 10 ∷ later =
    at_drop_more (runs_text (seed + i)) runs i none within
    ∙ runs_text-cons (seed + i) (get_or runs i none) rest
    ∙ ap (λ n. text ++ 10 ∷ runs_text n rest) count in
    append_assoc (made ++ text) (10 ∷ []) later ∙ append_assoc made text (10 ∷ later)
    ∙ ap (λ s. made ++ s) (sym next) ∙ h

-- all runs are written
pub no_run : (made : List ℕ) (seed : ℕ) (runs : List Summary) (i : ℕ) (all : List ℕ)
    → length runs ≤ i → made ++ runs_text (seed + i) (drop i runs) ≡ all → made ≡ all
unfolding runs_text
no_run made seed runs i all past h =
    let none = at_drop_all (runs_text (seed + i)) runs i past in
    sym (append-nil made) ∙ ap (λ s. made ++ s) (sym none) ∙ h
