-- A trace as a list of lines, and what is read off it.
use Rattle.std.specs.Prelude.{◌≡◌, ℕ, Bool, true, false, List, [], ◌∷◌, ◌++◌, length, Option, Some, None, fold}
use Rattle.std.specs.List.{flat_map, AllByRecursion}
use Rattle.trace_types.specs.declared.step.Step.{Step}
use Rattle.harp_types.specs.declared.book.BookEntry.{BookEntry}
use Rattle.trace_types.specs.declared.line.Line.{Line}
use Rattle.trace_types.specs.declared.line.Line.TheVariants as line
use Rattle.file_tree.specs.Book.{Entry}

-- lines in their order
abbrev pub Trace : Type 0
Trace = List Line

-- the entry of the book that a line enters
abbrev pub entry_of : BookEntry → Entry
entry_of e = record {
  index = e.index;
  client = e.client;
  number = e.number;
  cred = e.cred;
  call = e.call;
  stamp = e.stamp;
  reply = e.reply;
}

-- the entry of an entered line
abbrev pub entered_by : Line → List Entry
entered_by (line.Entered place entry) = entry_of entry ∷ []
entered_by l = []

-- the entered calls of a trace, in order
abbrev pub entries : Trace → List Entry
entries trace = flat_map entered_by trace

-- the step of an event line
abbrev pub step_of_line : Line → List Step
step_of_line (line.Event step) = step ∷ []
step_of_line l = []

-- the steps of the event lines, in order
abbrev pub steps : Trace → List Step
steps trace = flat_map step_of_line trace

-- the step that is under way after a line
abbrev pub later_step : Option Step → Line → Option Step
later_step before (line.Event step) = Some step
later_step before l = before

-- the step that is under way after these lines
abbrev pub step_under_way : Trace → Option Step
step_under_way trace = fold later_step None trace

-- whether a line may be the last one alone
abbrev pub is_last : Line → Bool
is_last (line.Bad number fault) = true
is_last (line.End entered) = true
is_last l = false

-- no line, or an event line first
abbrev pub BeginsWithEvent : Trace → Type 0
BeginsWithEvent [] = Unit {0}
BeginsWithEvent (line.Event step ∷ lines) = Unit {0}
BeginsWithEvent (l ∷ lines) = ⊥

-- a step begins among these lines
abbrev pub HasStep : Trace → Type 0
HasStep [] = ⊥
HasStep (line.Event step ∷ lines) = Unit {0}
HasStep (l ∷ lines) = HasStep lines

-- `bad` of any line, or `end` with the number of entered lines
abbrev pub Ends : ℕ → Line → Type 0
Ends entered (line.Bad number fault) = Unit {0}
Ends entered (line.End k) = k ≡ entered
Ends entered l = ⊥

-- lines that begin with an event line, and a last line that no other is like
pub record IsClosed (trace : Trace) : Type 0 where
  pub body : Trace
  pub last : Line
  pub parts : trace ≡ body ++ last ∷ []
  pub begins : BeginsWithEvent body
  pub open_before : AllByRecursion (λ l. is_last l ≡ false) body
  pub ends : Ends (length (entries body)) last

-- a fact of each line, of the lines before it and of those behind it
abbrev pub AtPlacesAmid : (Trace → Line → Trace → Type 0) → Trace → Trace → Type 0
AtPlacesAmid P before [] = Unit {0}
AtPlacesAmid P before (l ∷ lines) = P before l lines × AtPlacesAmid P (before ++ l ∷ []) lines

-- a fact of each line and the lines before it
abbrev pub AtPlacesAfter : (Trace → Line → Type 0) → Trace → Trace → Type 0
AtPlacesAfter P before [] = Unit {0}
AtPlacesAfter P before (l ∷ lines) = P before l × AtPlacesAfter P (before ++ l ∷ []) lines

-- a fact of each line of a trace and the lines before it
abbrev pub AtEachPlace : (Trace → Line → Type 0) → Trace → Type 0
AtEachPlace P trace = AtPlacesAfter P [] trace
