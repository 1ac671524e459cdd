-- The observed trace of an observed schedule's text.
use Rattle.std.specs.Prelude.{ℕ, List, [], ◌∷◌, ◌++◌, length}
use Rattle.std.specs.List.{flat_map}
use Rattle.trace_claims.specs.Trace.{Trace, entries}
use Rattle.group_trace.specs.Scene.{Measures}
use Rattle.schedule_play.specs.Trace.{last_line}
use Rattle.observed_text.specs.declared.line.ObservedLine.{ObservedLine}
use Rattle.observed_text.specs.declared.line.ObservedLine.TheVariants as line
use Rattle.observed_text.specs.Spelling.{observed_line}
use Rattle.observe_laws.specs.Reading.{ObservedReading, observed_reading}
use Rattle.observe_laws.specs.Run.{observed_run_lines}
use Rattle.observe_laws.specs.Scene.{first_observed}

-- lines in their order
abbrev pub ObservedTrace : Type 0
ObservedTrace = List ObservedLine

abbrev pub traced_by : ObservedLine → Trace
traced_by (line.Traced l) = l ∷ []
traced_by l = []

-- THE TRACE THAT IS LEFT where what tells of the observer is dropped
abbrev pub traced : ObservedTrace → Trace
traced trace = flat_map traced_by trace

abbrev pub lines_of_reading : Measures → ObservedReading → ObservedTrace
lines_of_reading m r = observed_run_lines m first_observed r.steps

-- the last line of the trace of what is read
abbrev pub observed_last : Measures → ObservedReading → ObservedLine
observed_last m r =
    line.Traced (last_line (length (entries (traced (lines_of_reading m r)))) r.refused)

abbrev pub observed_trace_of : Measures → ObservedReading → ObservedTrace
observed_trace_of m r = lines_of_reading m r ++ observed_last m r ∷ []

-- THE OBSERVED TRACE OF AN OBSERVED SCHEDULE'S TEXT
abbrev pub observed_trace : Measures → List ℕ → ObservedTrace
observed_trace m text = observed_trace_of m (observed_reading m text)

-- the text of an observed trace: each line with its line feed
unfoldable pub observed_trace_text : ObservedTrace → List ℕ
observed_trace_text trace = flat_map (λ l. observed_line l ++ 10 ∷ []) trace
