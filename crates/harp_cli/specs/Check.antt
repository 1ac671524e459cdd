-- How a check ends.
use Rattle.std.specs.Prelude.{◌≡◌, ◌≢◌, ◌⊎◌, ℕ, List, [], Option, Some, ⊤}
use Rattle.std.specs.Io.KnownBytes.{Appends}
use Rattle.harp_types.specs.Streams.{GrewByPart}
use Rattle.trace_verdict.specs.Verdicts.{IsRightText, IsVerdictOn}
use Rattle.trace_verdict.specs.declared.verdict.Verdict.{Verdict}
use Rattle.trace_verdict.specs.declared.verdict.Verdict.TheVariants as verdict
use Rattle.trace_verdict.specs.Texts.{verdict_line}
use Rattle.play_commands.specs.declared.exit.Exit.{Exit}
use Rattle.play_commands.specs.declared.exit.Exit.TheVariants as exit

-- the exit that tells a verdict
abbrev pub exit_after : Verdict → Exit
exit_after verdict.Yes = exit.Done
exit_after (verdict.No number breach) = exit.SaysNo
exit_after (verdict.Bad number unread) = exit.RefusedLine

-- The one verdict on the text was found: of a right text it is yes, and then the source was read to
-- its end
pub record IsFound (text : List ℕ) (source : Option (List ℕ)) (v : Verdict) : Type 0 where
  pub on : IsVerdictOn text v
  pub only : (w : Verdict) → IsVerdictOn text w → w ≡ v
  pub right : IsRightText text → v ≡ verdict.Yes
  pub read : v ≡ verdict.Yes → source ≡ Some []

-- the line of the verdict was written whole, and the exit tells it too
pub record TellsWhole (text : List ℕ) (source before after : Option (List ℕ)) (e : Exit)
    : Type 0 where
  pub tells : Verdict
  pub found : IsFound text source tells
  pub wrote : Appends before after (verdict_line tells)
  pub exit_is : e ≡ exit_after tells

-- a first part of the line of the verdict was written
pub record TellsPart (text : List ℕ) (source before after : Option (List ℕ)) : Type 0 where
  pub tells : Verdict
  pub found : IsFound text source tells
  pub wrote : GrewByPart before after (verdict_line tells)

-- How a check of a text ends: with 0, 1 or 5 the whole line of its verdict was written. Where the
-- source failed nothing was, and where the sink failed a part of the line; without memory either
abbrev pub CheckEnds : List ℕ → Option (List ℕ) → Option (List ℕ) → Option (List ℕ) → Exit → Type 0
CheckEnds text source before after exit.Done = TellsWhole text source before after exit.Done
CheckEnds text source before after exit.SaysNo = TellsWhole text source before after exit.SaysNo
CheckEnds text source before after exit.RefusedLine =
    TellsWhole text source before after exit.RefusedLine
CheckEnds text source before after exit.SourceFailed = after ≡ before
CheckEnds text source before after exit.SinkFailed = TellsPart text source before after
CheckEnds text source before after exit.NoMemory =
    (after ≡ before) ⊎ TellsPart text source before after
CheckEnds text source before after exit.RefusedWords = ⊥
CheckEnds text source before after exit.DiskFailed = ⊥
CheckEnds text source before after exit.LinkFailed = ⊥
CheckEnds text source before after exit.RefusedRecord = ⊥
CheckEnds text source before after exit.NetFull = ⊥
CheckEnds text source before after exit.CallSpent = ⊥

-- of a right text alone the status is 0, and of one it isn't 1 or 5
abbrev pub StatusAgrees : List ℕ → ℕ → Type 0
StatusAgrees text status =
    (status ≡ 0 → IsRightText text) × (IsRightText text → (status ≢ 1) × (status ≢ 5))

-- a check can end so
abbrev pub EndsCheck : Exit → Type 0
EndsCheck exit.Done = ⊤
EndsCheck exit.SaysNo = ⊤
EndsCheck exit.RefusedWords = ⊥
EndsCheck exit.SourceFailed = ⊤
EndsCheck exit.SinkFailed = ⊤
EndsCheck exit.RefusedLine = ⊤
EndsCheck exit.RefusedRecord = ⊥
EndsCheck exit.NoMemory = ⊤
EndsCheck exit.DiskFailed = ⊥
EndsCheck exit.LinkFailed = ⊥
EndsCheck exit.CallSpent = ⊥
EndsCheck exit.NetFull = ⊥
