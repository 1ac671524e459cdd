-- What is kept of the step that is under way.
use Rattle.std.specs.Prelude.{◌≡◌, true, Option, Some, None, [], ◌∷◌, is_some, if◌then◌else◌}
use Rattle.harp_types.specs.Update.{is_update}
use Rattle.harp_types.specs.declared.book.BookEntry.{BookEntry}
use Rattle.trace_types.specs.declared.line.Line.{Line}
use Rattle.trace_types.specs.declared.line.Line.TheVariants as line
use Rattle.trace_types.specs.declared.step.Step.{Step}
use Rattle.trace_types.specs.declared.step.Step.TheVariants as step
use Rattle.trace_claims.specs.Trace.{Trace, step_under_way}
use Rattle.trace_check.specs.declared.under_way.Reading.{Reading}
use Rattle.trace_check.specs.declared.under_way.UnderWay.{UnderWay}

-- the read that a step asks for
abbrev pub reading_of : Option Step → Option Reading
reading_of (Some (step.Ask server client number cred call)) =
    if is_update call then None else Some (record { cred = cred; call = call })
reading_of s = None

-- the read that a step asks for, where one begins
abbrev pub reading_told : Line → Option (Option Reading)
reading_told (line.Event s) = Some (reading_of (Some s))
reading_told l = None

-- the entry of a line
abbrev pub entry_told : Line → Option BookEntry
entry_told (line.Entered place entry) = Some entry
entry_told l = None

-- the entry of the last line
abbrev pub last_or : Option BookEntry → Trace → Option BookEntry
last_or before [] = before
last_or before (l ∷ lines) = last_or (entry_told l) lines

-- the read of the step under way; and where there is one, the entry of the last of these lines
pub record IsUnderWay (under_way : UnderWay) (trace : Trace) : Type 0 where
  pub reading : under_way.reading ≡ reading_of (step_under_way trace)
  pub entered : is_some under_way.reading ≡ true → under_way.entered ≡ last_or None trace
