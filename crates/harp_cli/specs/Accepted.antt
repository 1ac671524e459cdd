-- What a play wrote of which `check` says yes.
use Rattle.std.specs.Prelude.{ℕ, List, Option}
use Rattle.std.specs.Io.KnownBytes.{Appends}
use Rattle.trace_verdict.specs.Verdicts.{IsRightText}

-- a text was written of which `check` says yes
pub record WroteRightText (before after : Option (List ℕ)) : Type 0 where
  pub text : List ℕ
  pub wrote : Appends before after text
  pub right : IsRightText text
