-- What is found of the text of a trace.
use Rattle.std.specs.Prelude.{◌≡◌, ℕ, ◌+◌, ◌^◌, ◌<◌, ◌≤◌, false, List, [], ◌∷◌, ◌++◌, length}
use Rattle.harp_types.specs.Limits.{longest_line}
use Rattle.line_reader.specs.Lines.{lines_of}
use Rattle.trace_text.specs.Grammar.{IsTraceLine}
use Rattle.trace_types.specs.declared.line.Line.{Line}
use Rattle.trace_claims.specs.Trace.{AtEachPlace, IsClosed, Trace}
use Rattle.trace_check.specs.declared.breach.Breach.{Breach}
use Rattle.trace_check.specs.Breaches.{IsAccepted, IsFirst}
use Rattle.trace_verdict.specs.Places.{CanFollow, has_ended}
use Rattle.trace_verdict.specs.declared.verdict.Unread.{Unread}
use Rattle.trace_verdict.specs.declared.verdict.Unread.TheVariants as fault
use Rattle.trace_verdict.specs.declared.verdict.Verdict.{Verdict}
use Rattle.trace_verdict.specs.declared.verdict.Verdict.TheVariants as verdict

-- the lines of a text are the spellings of these lines, each of at most 20,000 bytes
abbrev pub AreLines : List (List ℕ) → Trace → Type 0
AreLines [] [] = Unit {0}
AreLines [] (l ∷ ls) = ⊥
AreLines (text ∷ texts) [] = ⊥
AreLines (text ∷ texts) (l ∷ ls) =
    (IsTraceLine text l × (length text ≤ longest_line)) × AreLines texts ls

-- A RIGHT TEXT: that of a closed trace of at most 2^40 lines which is faithful and acknowledged, and
-- uses promises
pub record IsRightText (text : List ℕ) : Type 0 where
  pub trace : Trace
  pub lines : AreLines (lines_of text) trace
  pub closed : IsClosed trace
  pub accepted : IsAccepted trace
  pub few : length trace ≤ 2 ^ 40

-- lines of a trace that may stand so, and break nothing
pub record AreRight (before : Trace) : Type 0 where
  pub placed : AtEachPlace CanFollow before
  pub accepted : IsAccepted before

-- behind the first lines of a text, which are right, this one comes, with this number
pub record Comes (text : List ℕ) (n : ℕ) (before : Trace) (line : List ℕ) : Type 0 where
  pub taken : List (List ℕ)
  pub rest : List (List ℕ)
  pub parts : lines_of text ≡ taken ++ line ∷ rest
  pub lines : AreLines taken before
  pub right : AreRight before
  pub number : n ≡ length before + 1

-- it is a line of a trace that may come next, and it breaks this first
pub record Breaks (before : Trace) (line : List ℕ) (b : Breach) : Type 0 where
  pub means : Line
  pub spelled : IsTraceLine line means
  pub follows : CanFollow before means
  pub first : IsFirst b before means

-- no line of a trace that may come next is spelled so
abbrev pub HasNoPlace : Trace → List ℕ → Type 0
HasNoPlace before line = (l : Line) → IsTraceLine line l → CanFollow before l → ⊥

-- the line with this number has no place
pub record IsPlaceless (text : List ℕ) (n : ℕ) : Type 0 where
  pub before : Trace
  pub line : List ℕ
  pub comes : Comes text n before line
  pub few : n ≤ 2 ^ 40
  pub short : length line ≤ longest_line
  pub none : HasNoPlace before line

-- it has more than 20,000 bytes
pub record IsLong (text : List ℕ) (n : ℕ) : Type 0 where
  pub before : Trace
  pub line : List ℕ
  pub comes : Comes text n before line
  pub few : n ≤ 2 ^ 40
  pub long : longest_line < length line

-- it is one past the 2^40th
pub record IsPast (text : List ℕ) (n : ℕ) : Type 0 where
  pub before : Trace
  pub line : List ℕ
  pub comes : Comes text n before line
  pub past : n ≡ 2 ^ 40 + 1

-- the text has no last line, where one with this number is wanted
pub record Lacks (text : List ℕ) (n : ℕ) : Type 0 where
  pub before : Trace
  pub lines : AreLines (lines_of text) before
  pub right : AreRight before
  pub few : length before ≤ 2 ^ 40
  pub goes_on : has_ended before ≡ false
  pub number : n ≡ length before + 1

-- why no trace is read at a line
abbrev pub IsUnread : List ℕ → ℕ → Unread → Type 0
IsUnread text n fault.Grammar = IsPlaceless text n
IsUnread text n fault.TooLong = IsLong text n
IsUnread text n fault.TooMany = IsPast text n
IsUnread text n fault.Unfinished = Lacks text n

-- the line with this number is the first that breaks something, and this first
pub record IsBroken (text : List ℕ) (n : ℕ) (b : Breach) : Type 0 where
  pub before : Trace
  pub line : List ℕ
  pub comes : Comes text n before line
  pub few : n ≤ 2 ^ 40
  pub short : length line ≤ longest_line
  pub breaks : Breaks before line b

-- THE VERDICT on a text
abbrev pub IsVerdictOn : List ℕ → Verdict → Type 0
IsVerdictOn text verdict.Yes = IsRightText text
IsVerdictOn text (verdict.No n b) = IsBroken text n b
IsVerdictOn text (verdict.Bad n fault) = IsUnread text n fault
