-- The trace of a schedule's text.
use Rattle.std.specs.Prelude.{ℕ, List, [], ◌∷◌, ◌++◌, length, Option, Some, None}
use Rattle.std.specs.List.{flat_map}
use Rattle.trace_types.specs.declared.line.Line.{Line}
use Rattle.trace_types.specs.declared.line.Line.TheVariants as line
use Rattle.trace_types.specs.declared.line.LineFault.{LineFault}
use Rattle.trace_claims.specs.Trace.{Trace, entries}
use Rattle.file_tree.specs.Book.{Entry}
use Rattle.group_rules.specs.State.{Group}
use Rattle.text_spelling.specs.TraceLines.{line_text}
use Rattle.group_trace.specs.Run.{run, run_lines}
use Rattle.group_trace.specs.Scene.{Measures, first_scene}
use Rattle.schedule_play.specs.Reading.{Reading, reading}

-- the last line of a trace: how many calls were entered, or which line is refused
abbrev pub last_line : ℕ → Option (ℕ × LineFault) → Line
last_line entered None = line.End entered
last_line entered (Some refused) = line.Bad refused.0 refused.1

-- the last line of the trace of what is read
abbrev pub last_of : Measures → Reading → Line
last_of m r = last_line (length (entries (run_lines m first_scene r.steps))) r.refused

-- the lines of the run of the steps that are read, and the last line
abbrev pub trace_of_reading : Measures → Reading → Trace
trace_of_reading m r = run_lines m first_scene r.steps ++ last_of m r ∷ []

-- THE TRACE OF A SCHEDULE'S TEXT
abbrev pub trace_of : Measures → List ℕ → Trace
trace_of m text = trace_of_reading m (reading m text)

-- the group that the steps of a text leave
abbrev pub group_left : Measures → List ℕ → Group Entry
group_left m text = (run m first_scene (reading m text).steps).group

-- the text of a trace: each line with its line feed
unfoldable pub trace_text : Trace → List ℕ
trace_text trace = flat_map (λ l. line_text l ++ 10 ∷ []) trace
