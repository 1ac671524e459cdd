-- What a line of a schedule may be, and what its meaning says of it.
use Rattle.std.specs.Prelude.{◌≡◌, ℕ, List, [], ◌∷◌, Option, Some, None, Result, Ok, Err}
use Rattle.trace_types.specs.declared.step.Step.{Step}
use Rattle.text_spelling.specs.Steps.{step_text}
use Rattle.text_spelling.specs.StepFits.{StepFits}
use Rattle.schedule_text.specs.declared.fault.TextFault.{TextFault}
use Rattle.schedule_text.specs.declared.fault.TextFault.TheVariants.{Grammar, NoMemory}

-- the line is the spelling of this step
pub record IsStepLine (line : List ℕ) (s : Step) : Type 0 where
  pub fits : StepFits s
  pub spelled : line ≡ step_text s

-- empty, or a comment
abbrev pub IsBlank : List ℕ → Type 0
IsBlank [] = Unit {0}
IsBlank (b ∷ line) = b ≡ 35

-- out of the grammar: neither of the two
pub record IsNoStep (line : List ℕ) : Type 0 where
  pub not_blank : IsBlank line → ⊥
  pub no_step : (s : Step) → IsStepLine line s → ⊥

-- what a meaning says of its line
abbrev pub Explains : List ℕ → Result (Option Step) TextFault → Type 0
Explains line (Ok (Some s)) = IsStepLine line s
Explains line (Ok None) = IsBlank line
Explains line (Err (Grammar place)) = IsNoStep line
Explains line (Err NoMemory) = ⊥
