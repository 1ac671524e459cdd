-- What holds of the lines of every run whose steps fit.
use Rattle.std.specs.Prelude.{ℕ, ◌+◌, ◌<◌, ◌≤◌, ◌^◌, List, [], ◌∷◌, length}
use Rattle.std.specs.List.{AllByRecursion}
use Rattle.harp_types.specs.Limits.{longest_line}
use Rattle.harp_base.specs.Fields.{AllFit}
use Rattle.trace_types.specs.declared.step.Step.{Step}
use Rattle.trace_types.specs.declared.step.Step.TheVariants as step
use Rattle.trace_types.specs.declared.line.Line.{Line}
use Rattle.text_spelling.specs.StepFits.{StepFits}
use Rattle.text_spelling.specs.TraceLines.{line_text}
use Rattle.text_spelling.specs.Steps.{step_text}
use Rattle.trace_text.specs.Fits.{LineFits}
use Rattle.file_tree.specs.Book.{Entry}
use Rattle.group_rules.specs.State.{Message}
use Rattle.group_trace.specs.Run.{AreTaken, run, run_lines}
use Rattle.group_trace.specs.Scene.{Measures, first_scene}

-- a message has at least a byte
abbrev pub TakeBytes : Measures → Type 0
TakeBytes m = (list : List Entry) (message : Message Entry) → 1 ≤ m.bytes list message

-- a step fits that a line of a schedule tells, of at most 19,998 bytes; what is delivered was sent
abbrev pub ToldFits : Step → Type 0
ToldFits (step.Deliver n) = Unit {0}
ToldFits s = StepFits s × (length (step_text s) ≤ 19998)

-- a line that has a spelling, of at most 20,000 bytes
abbrev pub LineIn : Line → Type 0
LineIn l = LineFits l × (length (line_text l) ≤ longest_line)

-- how many lines tell a step alone; deliveries come of pumps too
abbrev pub told : Step → ℕ
told (step.Deliver n) = 0
told s = 1

abbrev pub all_told : List Step → ℕ
all_told [] = 0
all_told (s ∷ ss) = told s + all_told ss

-- EACH LINE OF EACH RUN FITS and is short enough, of however many deliveries and half a million other steps
abbrev pub RunsFit : Type 0
RunsFit = (m : Measures) → TakeBytes m → (ss : List Step) → AreTaken m first_scene ss
    → AllFit ToldFits ss → all_told ss ≤ 500000
    → AllByRecursion LineIn (run_lines m first_scene ss)

-- and the book that they leave has few entries
abbrev pub BooksAreFew : Type 0
BooksAreFew = (m : Measures) → TakeBytes m → (ss : List Step) → AreTaken m first_scene ss
    → AllFit ToldFits ss → all_told ss ≤ 500000 → length (run m first_scene ss).group.book < 10 ^ 18
