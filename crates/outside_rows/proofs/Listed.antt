-- Steps that go from what is left into a list.
use Rattle.std.proofs.Common.{◌≡◌, List, [], ◌∷◌, ◌++◌, ap, sym, ◌∙◌, append_assoc}
use Rattle.std.proofs.lemmas.List.{append-nil}
use Rattle.trace_types.specs.declared.step.Step.{Step}

-- the next step goes from what is left into the list
pub step-listed : (before after left rest all : List Step) (step : Step) → left ≡ step ∷ rest
    → after ≡ before ++ step ∷ [] → before ++ left ≡ all → after ++ rest ≡ all
step-listed before after left rest all step is longer h =
    ap (λ s. s ++ rest) longer ∙ append_assoc before (step ∷ []) rest
    ∙ ap (λ s. before ++ s) (sym is) ∙ h

-- all steps are in the list
pub steps-listed : (list left all : List Step) → left ≡ [] → list ++ left ≡ all → list ≡ all
steps-listed list left all none h =
    sym (append-nil list) ∙ ap (λ s. list ++ s) (sym none) ∙ h
