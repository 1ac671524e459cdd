-- How a sweep ends.
use Rattle.std.specs.Prelude.{ℕ, List, Option}
use Rattle.std.specs.Io.KnownBytes.{Appends}
use Rattle.harp_types.specs.Streams.{GrewByPart}
use Rattle.trace_types.specs.declared.step.Step.{Step}
use Rattle.sweep.specs.Runs.{summaries}
use Rattle.sweep.specs.declared.summary.Summary.{Summary}
use Rattle.sweep.specs.Texts.{summaries_text}
use Rattle.play_commands.specs.declared.exit.Exit.{Exit}
use Rattle.play_commands.specs.declared.exit.Exit.TheVariants as exit

-- what the schedules of so many seeds from this one on come to, as text
abbrev pub swept_text : (List Step → Summary) → ℕ → ℕ → ℕ → List ℕ
swept_text summary_of seed runs lines = summaries_text seed (summaries summary_of seed runs lines)

-- the summaries of all runs were written, or a first part of their text
abbrev pub SweepEnds : (List Step → Summary) → ℕ → ℕ → ℕ → Option (List ℕ) → Option (List ℕ)
    → Exit → Type 0
SweepEnds summary_of seed runs lines before after exit.Done =
    Appends before after (swept_text summary_of seed runs lines)
SweepEnds summary_of seed runs lines before after exit.SinkFailed =
    GrewByPart before after (swept_text summary_of seed runs lines)
SweepEnds summary_of seed runs lines before after exit.NoMemory =
    GrewByPart before after (swept_text summary_of seed runs lines)
SweepEnds summary_of seed runs lines before after exit.SaysNo = ⊥
SweepEnds summary_of seed runs lines before after exit.RefusedWords = ⊥
SweepEnds summary_of seed runs lines before after exit.SourceFailed = ⊥
SweepEnds summary_of seed runs lines before after exit.RefusedLine = ⊥
SweepEnds summary_of seed runs lines before after exit.RefusedRecord = ⊥
SweepEnds summary_of seed runs lines before after exit.NetFull = ⊥
SweepEnds summary_of seed runs lines before after exit.CallSpent = ⊥
SweepEnds summary_of seed runs lines before after exit.DiskFailed = ⊥
SweepEnds summary_of seed runs lines before after exit.LinkFailed = ⊥
