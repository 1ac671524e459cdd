-- The lines of the text of a trace, and of the trace of a schedule.
use Rattle.std.specs.Prelude.{◌≡◌, ℕ, ◌≤◌, ◌^◌, List, length, map}
use Rattle.std.specs.List.{AllByRecursion}
use Rattle.line_reader.specs.Lines.{lines_of}
use Rattle.trace_claims.specs.Trace.{Trace}
use Rattle.text_spelling.specs.TraceLines.{line_text}
use Rattle.group_trace.specs.Scene.{Measures}
use Rattle.accept_laws.specs.Laws.{LineIn, TakeBytes}
use Rattle.schedule_play.specs.Trace.{trace_of, trace_text}

-- THE LINES OF A TRACE'S TEXT are the spellings of its lines
abbrev pub TextsHaveTheirLines : Type 0
TextsHaveTheirLines = (trace : Trace) → lines_of (trace_text trace) ≡ map line_text trace

-- EACH LINE OF THE TRACE of a schedule, with lines of at most 19,998 bytes, has a spelling of at most
-- 20,000 bytes
abbrev pub TracesFit : Type 0
TracesFit = (m : Measures) → TakeBytes m → (text : List ℕ)
    → AllByRecursion (λ line. length line ≤ 19998) (lines_of text)
    → AllByRecursion LineIn (trace_of m text)

-- A TRACE HAS AT MOST 2^40 LINES, where no line of the schedule has more than 19,998 bytes
abbrev pub TracesAreFew : Type 0
TracesAreFew = (m : Measures) → TakeBytes m → (text : List ℕ)
    → AllByRecursion (λ line. length line ≤ 19998) (lines_of text)
    → length (trace_of m text) ≤ 2 ^ 40
