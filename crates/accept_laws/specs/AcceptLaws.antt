-- Of which schedules `check` says yes of what `play` writes.
use Rattle.std.specs.Prelude.{ℕ, ◌≤◌, List, length}
use Rattle.std.specs.List.{AllByRecursion}
use Rattle.line_reader.specs.Lines.{lines_of}
use Rattle.group_trace.specs.DiskCalls.{measures_of}
use Rattle.schedule_play.specs.Trace.{trace_of, trace_text}
use Rattle.world_rules.specs.Spellings.{spellings}
use Rattle.trace_verdict.specs.Verdicts.{IsRightText}

-- no line of a schedule has more than 19,998 bytes
abbrev pub HasShortLines : List ℕ → Type 0
HasShortLines text = AllByRecursion (λ line. length line ≤ 19998) (lines_of text)

-- CHECK ACCEPTS WHAT PLAY WRITES: the text of the trace of each such schedule is right, with the
-- messages of the group's servers
abbrev pub PlaysAreAccepted : Type 0
PlaysAreAccepted = (text : List ℕ) → HasShortLines text
    → IsRightText (trace_text (trace_of (measures_of spellings) text))
