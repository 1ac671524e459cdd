-- A judge on its way through a text.
use Rattle.std.specs.Prelude.{◌≡◌, ℕ, ◌+◌, ◌≤◌, List, [], ◌∷◌, ◌++◌, length, Option, Some, None}
use Rattle.harp_types.specs.Limits.{longest_line}
use Rattle.line_reader.specs.Lines.{lines_of}
use Rattle.trace_text.specs.Grammar.{IsTraceLine}
use Rattle.trace_types.specs.declared.line.Line.{Line}
use Rattle.trace_claims.specs.Trace.{AtEachPlace, Trace}
use Rattle.trace_check.specs.declared.breach.Breach.{Breach}
use Rattle.trace_check.specs.Breaches.{IsFirst}
use Rattle.trace_check.specs.Checker.{Saw}
use Rattle.trace_verdict.specs.declared.judge.Judge.{Judge}
use Rattle.trace_verdict.specs.declared.verdict.Unread.TheVariants as fault
use Rattle.trace_verdict.specs.declared.verdict.Verdict.{Verdict}
use Rattle.trace_verdict.specs.declared.verdict.Verdict.TheVariants as verdict
use Rattle.trace_verdict.specs.Places.{CanFollow, has_ended}
use Rattle.trace_verdict.specs.Verdicts.{HasNoPlace, IsVerdictOn}

-- a line is the spelling of this one, and of no other
pub record MeansOnly (text : List ℕ) (l : Line) : Type 0 where
  pub spelled : IsTraceLine text l
  pub only : (m : Line) → IsTraceLine text m → m ≡ l
  pub short : length text ≤ longest_line

abbrev pub MeanOnly : List (List ℕ) → Trace → Type 0
MeanOnly [] [] = Unit {0}
MeanOnly [] (l ∷ ls) = ⊥
MeanOnly (text ∷ texts) [] = ⊥
MeanOnly (text ∷ texts) (l ∷ ls) = MeansOnly text l × MeanOnly texts ls

-- a judge took these lines, which mean this
pub record HasTaken (j : Judge) (taken : List (List ℕ)) (before : Trace) : Type 0 where
  pub means : MeanOnly taken before
  pub saw : Saw j.checker before
  pub placed : AtEachPlace CanFollow before
  pub lines : j.lines ≡ length before
  pub ended : j.ended ≡ has_ended before

-- it took one more line
pub record TakesOn (new : Judge) (taken : List (List ℕ)) (before : Trace) (line : List ℕ) : Type 0 where
  pub means : Line
  pub took : HasTaken new (taken ++ line ∷ []) (before ++ means ∷ [])

-- the line breaks this first
pub record BreaksAlone (before : Trace) (line : List ℕ) (b : Breach) : Type 0 where
  pub means : Line
  pub only : MeansOnly line means
  pub follows : CanFollow before means
  pub first : IsFirst b before means

-- a line that was read is taken, or it breaks something, or it has no place
abbrev pub AfterLine : Judge → List (List ℕ) → Trace → List ℕ → Option Verdict → Type 0
AfterLine new taken before line None = TakesOn new taken before line
AfterLine new taken before line (Some verdict.Yes) = ⊥
AfterLine new taken before line (Some (verdict.No n b)) =
    (n ≡ length before + 1) × BreaksAlone before line b
AfterLine new taken before line (Some (verdict.Bad n fault.Grammar)) =
    (n ≡ length before + 1) × HasNoPlace before line
AfterLine new taken before line (Some (verdict.Bad n fault.TooLong)) = ⊥
AfterLine new taken before line (Some (verdict.Bad n fault.TooMany)) = ⊥
AfterLine new taken before line (Some (verdict.Bad n fault.Unfinished)) = ⊥

-- of a text these lines were taken, and the others are left
pub record IsOnTheWay (text left : List ℕ) (j : Judge) : Type 0 where
  pub taken : List (List ℕ)
  pub before : Trace
  pub parts : lines_of text ≡ taken ++ lines_of left
  pub took : HasTaken j taken before

-- a verdict, and no other can be given
pub record Decides (text : List ℕ) (v : Verdict) : Type 0 where
  pub is : IsVerdictOn text v
  pub only : (w : Verdict) → IsVerdictOn text w → w ≡ v

-- a verdict, which isn't yes
pub record Denies (text : List ℕ) (v : Verdict) : Type 0 where
  pub decides : Decides text v
  pub no : v ≡ verdict.Yes → ⊥

-- after a line a verdict is given, or the judge goes on with a line less
abbrev pub AfterTurn : List ℕ → List ℕ → Judge → Option Verdict → Type 0
AfterTurn text left new None = IsOnTheWay text left new
AfterTurn text left new (Some v) = Denies text v

-- what is left is told, and the judge goes on
pub record GoesOn (text : List ℕ) (told : Option (List ℕ)) (j : Judge) : Type 0 where
  pub left : List ℕ
  pub told_is : told ≡ Some left
  pub way : IsOnTheWay text left j

-- a verdict is given, yes only where nothing is left
pub record DecidesBy (text : List ℕ) (told : Option (List ℕ)) (v : Verdict) : Type 0 where
  pub decides : Decides text v
  pub read : v ≡ verdict.Yes → told ≡ Some []

-- the same where it is told what is left
abbrev pub AfterToldTurn : List ℕ → Option (List ℕ) → Judge → Option Verdict → Type 0
AfterToldTurn text told new None = GoesOn text told new
AfterToldTurn text told new (Some v) = DecidesBy text told v
