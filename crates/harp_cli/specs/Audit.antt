-- How the audit of a folder ends.
use Rattle.std.specs.Prelude.{◌≡◌, ◌⊎◌, ℕ, List, Option}
use Rattle.std.specs.Io.KnownBytes.{Appends}
use Rattle.audit_verdict.specs.Left.{tree_at_cp}
use Rattle.audit_verdict.specs.Texts.{tree_text, verdict_text}
use Rattle.audit_verdict.specs.Verdicts.{IsVerdictOfTold}
use Rattle.audit_verdict.specs.declared.verdict.Verdict.{Verdict}
use Rattle.audit_verdict.specs.declared.verdict.Verdict.TheVariants as verdict
use Rattle.file_tree.specs.Book.{Entry}
use Rattle.harp_store.specs.Disk.{Moments}
use Rattle.harp_types.specs.Streams.{GrewByPart}
use Rattle.volatile_log.specs.Log.{LogValue}
use Rattle.play_commands.specs.declared.exit.Exit.{Exit}
use Rattle.play_commands.specs.declared.exit.Exit.TheVariants as exit

-- how a command ends that has written a verdict
abbrev pub exit_of_verdict : Verdict → Exit
exit_of_verdict verdict.Unsaved = exit.SaysNo
exit_of_verdict (verdict.Unsound found) = exit.SaysNo
exit_of_verdict (verdict.Sound listing) = exit.Done

-- a verdict was written whole, or a first part of it
abbrev pub VerdictEnds : Verdict → Option (List ℕ) → Option (List ℕ) → Exit → Type 0
VerdictEnds v before after exit.Done =
    (exit_of_verdict v ≡ exit.Done) × Appends before after (verdict_text v)
VerdictEnds v before after exit.SaysNo =
    (exit_of_verdict v ≡ exit.SaysNo) × Appends before after (verdict_text v)
VerdictEnds v before after exit.SinkFailed = GrewByPart before after (verdict_text v)
VerdictEnds v before after exit.NoMemory = GrewByPart before after (verdict_text v)
VerdictEnds v before after exit.RefusedWords = ⊥
VerdictEnds v before after exit.SourceFailed = ⊥
VerdictEnds v before after exit.RefusedLine = ⊥
VerdictEnds v before after exit.RefusedRecord = ⊥
VerdictEnds v before after exit.NetFull = ⊥
VerdictEnds v before after exit.CallSpent = ⊥
VerdictEnds v before after exit.DiskFailed = ⊥
VerdictEnds v before after exit.LinkFailed = ⊥

-- the verdict on a disk, where it is told, was written so far as this exit says
pub record TellsVerdict (told : Option Moments) (before after : Option (List ℕ)) (e : Exit)
    : Type 0 where
  pub verdict : Verdict
  pub of : IsVerdictOfTold told verdict
  pub wrote : VerdictEnds verdict before after e

-- HOW AN AUDIT ENDS: with 0 and 1 the verdict was written, which is sound exactly with 0; where the
-- sink failed, a first part of it; where the disk failed, nothing. Without memory it is either
abbrev pub AuditEnds : Option Moments → Option (List ℕ) → Option (List ℕ) → Exit → Type 0
AuditEnds told before after exit.Done = TellsVerdict told before after exit.Done
AuditEnds told before after exit.SaysNo = TellsVerdict told before after exit.SaysNo
AuditEnds told before after exit.SinkFailed = TellsVerdict told before after exit.SinkFailed
AuditEnds told before after exit.NoMemory =
    (after ≡ before) ⊎ TellsVerdict told before after exit.NoMemory
AuditEnds told before after exit.DiskFailed = after ≡ before
AuditEnds told before after exit.RefusedWords = ⊥
AuditEnds told before after exit.SourceFailed = ⊥
AuditEnds told before after exit.RefusedLine = ⊥
AuditEnds told before after exit.RefusedRecord = ⊥
AuditEnds told before after exit.NetFull = ⊥
AuditEnds told before after exit.CallSpent = ⊥
AuditEnds told before after exit.LinkFailed = ⊥

-- the text of the tree after the committed updates was written whole with 0, and it isn't called
-- unsound
abbrev pub WritesTree : List Entry → LogValue → Option (List ℕ) → Option (List ℕ) → Exit → Type 0
WritesTree list log before after exit.Done =
    Appends before after (tree_text log.cp (tree_at_cp list log))
WritesTree list log before after exit.SaysNo = ⊥
WritesTree list log before after exit.RefusedWords = ⊥
WritesTree list log before after exit.SourceFailed = ⊥
WritesTree list log before after exit.SinkFailed = Unit {0}
WritesTree list log before after exit.RefusedLine = ⊥
WritesTree list log before after exit.RefusedRecord = ⊥
WritesTree list log before after exit.NetFull = ⊥
WritesTree list log before after exit.CallSpent = ⊥
WritesTree list log before after exit.NoMemory = Unit {0}
WritesTree list log before after exit.DiskFailed = Unit {0}
WritesTree list log before after exit.LinkFailed = ⊥
