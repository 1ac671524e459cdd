-- What a line of an observed schedule may be, and what its meaning says of it.
use Rattle.std.specs.Prelude.{◌≡◌, ℕ, List, Option, Some, None, Result, Ok, Err}
use Rattle.schedule_text.specs.declared.fault.TextFault.{TextFault}
use Rattle.schedule_text.specs.declared.fault.TextFault.TheVariants.{Grammar, NoMemory}
use Rattle.schedule_text.specs.Grammar.{IsStepLine, IsBlank}
use Rattle.observed_text.specs.declared.step.Act.{Act}
use Rattle.observed_text.specs.declared.step.ObservedStep.{ObservedStep}
use Rattle.observed_text.specs.declared.step.ObservedStep.TheVariants as observed
use Rattle.observed_text.specs.Spelling.{ActFits, act_text}

-- the line is the spelling of this act
pub record IsActLine (line : List ℕ) (a : Act) : Type 0 where
  pub fits : ActFits a
  pub spelled : line ≡ act_text a

-- the line is the spelling of this step
abbrev pub IsObservedLine : List ℕ → ObservedStep → Type 0
IsObservedLine line (observed.Played s) = IsStepLine line s
IsObservedLine line (observed.Acted a) = IsActLine line a

-- out of the grammar: neither blank nor a step
pub record IsNoObserved (line : List ℕ) : Type 0 where
  pub not_blank : IsBlank line → ⊥
  pub no_step : (s : ObservedStep) → IsObservedLine line s → ⊥

-- what a meaning says of its line
abbrev pub ExplainsObserved : List ℕ → Result (Option ObservedStep) TextFault → Type 0
ExplainsObserved line (Ok (Some s)) = IsObservedLine line s
ExplainsObserved line (Ok None) = IsBlank line
ExplainsObserved line (Err (Grammar place)) = IsNoObserved line
ExplainsObserved line (Err NoMemory) = ⊥
