-- What a line of a trace may be, and what its meaning says of it.
use Rattle.std.specs.Prelude.{◌≡◌, ℕ, List, Result, Ok, Err}
use Rattle.trace_types.specs.declared.line.Line.{Line}
use Rattle.text_spelling.specs.TraceLines.{line_text}
use Rattle.schedule_text.specs.declared.fault.TextFault.{TextFault}
use Rattle.schedule_text.specs.declared.fault.TextFault.TheVariants.{Grammar, NoMemory}
use Rattle.trace_text.specs.Fits.{LineFits}

-- the bytes are the spelling of this line
pub record IsTraceLine (text : List ℕ) (l : Line) : Type 0 where
  pub fits : LineFits l
  pub spelled : text ≡ line_text l

-- what a meaning says of its bytes
abbrev pub Explains : List ℕ → Result Line TextFault → Type 0
Explains text (Ok l) = IsTraceLine text l
Explains text (Err (Grammar place)) = (l : Line) → IsTraceLine text l → ⊥
Explains text (Err NoMemory) = ⊥
