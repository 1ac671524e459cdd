-- How the writing of a generated schedule ends.
use Rattle.std.specs.Prelude.{ℕ, List, Option}
use Rattle.std.specs.Io.KnownBytes.{Appends}
use Rattle.harp_types.specs.Streams.{GrewByPart}
use Rattle.sweep.specs.Lines.{generated}
use Rattle.sweep.specs.Texts.{schedule_text}
use Rattle.play_commands.specs.declared.exit.Exit.{Exit}
use Rattle.play_commands.specs.declared.exit.Exit.TheVariants as exit

-- the schedule of the seed was written whole, or a first part of its text
abbrev pub GenEnds : ℕ → ℕ → Option (List ℕ) → Option (List ℕ) → Exit → Type 0
GenEnds seed lines before after exit.Done =
    Appends before after (schedule_text (generated seed lines))
GenEnds seed lines before after exit.SinkFailed =
    GrewByPart before after (schedule_text (generated seed lines))
GenEnds seed lines before after exit.NoMemory =
    GrewByPart before after (schedule_text (generated seed lines))
GenEnds seed lines before after exit.SaysNo = ⊥
GenEnds seed lines before after exit.RefusedWords = ⊥
GenEnds seed lines before after exit.SourceFailed = ⊥
GenEnds seed lines before after exit.RefusedLine = ⊥
GenEnds seed lines before after exit.RefusedRecord = ⊥
GenEnds seed lines before after exit.NetFull = ⊥
GenEnds seed lines before after exit.CallSpent = ⊥
GenEnds seed lines before after exit.DiskFailed = ⊥
GenEnds seed lines before after exit.LinkFailed = ⊥
