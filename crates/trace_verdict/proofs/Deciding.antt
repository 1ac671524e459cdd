-- A verdict on a text, and that no other can be given.
use Rattle.std.proofs.Common.{◌≡◌, ℕ, ◌+◌, ◌≤◌, ◌<◌, ◌^◌, true, false, List, [], ◌∷◌, ◌++◌, length, Option, Some, None, Result, Ok, Err, sym, ap, subst, ◌∙◌, append_assoc, arith}
use Rattle.std.specs.Prelude.{IfOk}
use Rattle.std.proofs.lemmas.List.{append-nil}
use Rattle.line_reader.specs.Lines.{lines_of}
use Rattle.trace_claims.specs.Trace.{Trace}
use Rattle.trace_check.specs.declared.breach.Breach.{Breach}
use Rattle.trace_verdict.specs.declared.judge.Judge.{Judge}
use Rattle.trace_verdict.specs.declared.verdict.Unread.TheVariants as fault
use Rattle.trace_verdict.specs.declared.verdict.Verdict.{Verdict}
use Rattle.trace_verdict.specs.declared.verdict.Verdict.TheVariants as verdict
use Rattle.trace_verdict.specs.Judging.{AfterLine, AfterTurn, BreaksAlone, Decides, Denies, HasTaken, IsOnTheWay, MeanOnly, TakesOn}
use Rattle.trace_verdict.specs.Places.{has_ended}
use Rattle.trace_verdict.specs.Verdicts.{AreLines, AreRight, Breaks, Comes, IsVerdictOn}
use Rattle.trace_verdict.proofs.Closing.{closed_from}
use Rattle.trace_verdict.proofs.Causes.{Cause, IsAlone}
use Rattle.trace_verdict.proofs.OneVerdict.{HasLeft, only_at, only_unfinished, only_yes}

as_lines : (taken : List (List ℕ)) (before : Trace) → MeanOnly taken before → AreLines taken before
as_lines [] [] h = tt
as_lines [] (l ∷ before) h = absurd h
as_lines (t ∷ taken) [] h = absurd h
as_lines (t ∷ taken) (l ∷ before) h = ((h.0.spelled, h.0.short), as_lines taken before h.1)

right_before : (j : Judge) (taken : List (List ℕ)) (before : Trace) → HasTaken j taken before
    → AreRight before
right_before j taken before took =
    record { placed = took.placed; accepted = took.saw.accepted }

-- ---- the line that comes next

-- behind what a judge took, this line comes
pub record IsNext (text : List ℕ) (j : Judge) (line : List ℕ) : Type 0 where
  taken : List (List ℕ)
  before : Trace
  lines : List (List ℕ)
  parts : lines_of text ≡ taken ++ line ∷ lines
  took : HasTaken j taken before

abbrev pub is_next : (text left : List ℕ) (j : Judge) (line : List ℕ) (lines : List (List ℕ))
    → IsOnTheWay text left j → lines_of left ≡ line ∷ lines → IsNext text j line
is_next text left j line lines way e = record {
  taken = way.taken;
  before = way.before;
  lines = lines;
  parts = way.parts ∙ ap (λ (ts : List (List ℕ)). way.taken ++ ts) e;
  took = way.took;
}

comes : (text : List ℕ) (j : Judge) (line : List ℕ) (n : ℕ) (next : IsNext text j line)
    → n ≡ length next.before + 1 → Comes text n next.before line
comes text j line n next e = record {
  taken = next.taken;
  rest = next.lines;
  parts = next.parts;
  lines = as_lines next.taken next.before next.took.means;
  right = right_before j next.taken next.before next.took;
  number = e;
}

has_left : (text : List ℕ) (j : Judge) (line : List ℕ) (next : IsNext text j line)
    → j.lines ≤ 2 ^ 40 → HasLeft text next.before (line ∷ next.lines)
has_left text j line next few = record {
  taken = next.taken;
  parts = next.parts;
  means = next.took.means;
  right = right_before j next.taken next.before next.took;
  few = omega (arith, few, next.took.lines);
}

number_there : (text : List ℕ) (j : Judge) (line : List ℕ) (next : IsNext text j line)
    → j.lines + 1 ≡ length next.before + 1
number_there text j line next = ap (λ (n : ℕ). n + 1) next.took.lines

-- a verdict at the line that comes next is the only one
denied_at : (text : List ℕ) (j : Judge) (line : List ℕ) (next : IsNext text j line) (v : Verdict)
    → j.lines ≤ 2 ^ 40 → IsVerdictOn text v
    → Cause (length next.before + 1) next.before line v → IsAlone next.before line v
    → (v ≡ verdict.Yes → ⊥) → Denies text v
denied_at text j line next v few is cause alone other = record {
  decides = record {
    is = is;
    only = only_at text next.before line next.lines v (has_left text j line next few) cause alone;
  };
  no = other;
}

pub too_many : (text : List ℕ) (j : Judge) (line : List ℕ) → IsNext text j line
    → j.lines ≡ 2 ^ 40 → Denies text (verdict.Bad (j.lines + 1) fault.TooMany)
too_many text j line next all = denied_at text j line next
    (verdict.Bad (j.lines + 1) fault.TooMany) (omega (arith, all)) (record {
      before = next.before;
      line = line;
      comes = comes text j line (j.lines + 1) next (number_there text j line next);
      past = ap (λ (n : ℕ). n + 1) all;
    }) (number_there text j line next, omega (arith, all, next.took.lines)) tt (λ e. cc)

pub too_long : (text : List ℕ) (j : Judge) (line : List ℕ) → IsNext text j line
    → j.lines < 2 ^ 40 → 20000 < length line
    → Denies text (verdict.Bad (j.lines + 1) fault.TooLong)
too_long text j line next few long = denied_at text j line next
    (verdict.Bad (j.lines + 1) fault.TooLong) (omega (arith, few)) (record {
      before = next.before;
      line = line;
      comes = comes text j line (j.lines + 1) next (number_there text j line next);
      few = omega (arith, few);
      long = long;
    }) (number_there text j line next, omega (arith, few, next.took.lines), long) tt (λ e. cc)

breaks_of : (before : Trace) (line : List ℕ) (b : Breach) → BreaksAlone before line b
    → Breaks before line b
breaks_of before line b alone = record {
  means = alone.means;
  spelled = alone.only.spelled;
  follows = alone.follows;
  first = alone.first;
}

goes_on : (text after : List ℕ) (old new : Judge) (line : List ℕ) (next : IsNext text old line)
    → next.lines ≡ lines_of after → TakesOn new next.taken next.before line
    → IsOnTheWay text after new
goes_on text after old new line next e taken = record {
  taken = next.taken ++ line ∷ [];
  before = next.before ++ taken.means ∷ [];
  parts = next.parts ∙ sym (append_assoc next.taken (line ∷ []) next.lines)
      ∙ ap (λ (ts : List (List ℕ)). (next.taken ++ line ∷ []) ++ ts) e;
  took = taken.took;
}

pub after_line : (text after : List ℕ) (old new : Judge) (line : List ℕ)
    (next : IsNext text old line) → next.lines ≡ lines_of after → old.lines < 2 ^ 40
    → length line ≤ 20000 → (v : Option Verdict)
    → AfterLine new next.taken next.before line v → AfterTurn text after new v
after_line text after old new line next e few short None taken =
    goes_on text after old new line next e taken
after_line text after old new line next e few short (Some verdict.Yes) h = absurd h
after_line text after old new line next e few short (Some (verdict.No n b)) h =
    denied_at text old line next (verdict.No n b) (omega (arith, few)) (record {
      before = next.before;
      line = line;
      comes = comes text old line n next h.0;
      few = omega (arith, h.0, few, next.took.lines);
      short = short;
      breaks = breaks_of next.before line b h.1;
    }) (h.0, omega (arith, few, next.took.lines), short, breaks_of next.before line b h.1) h.1
    (λ e. cc)
after_line text after old new line next e few short (Some (verdict.Bad n fault.Grammar)) h =
    denied_at text old line next (verdict.Bad n fault.Grammar) (omega (arith, few)) (record {
      before = next.before;
      line = line;
      comes = comes text old line n next h.0;
      few = omega (arith, h.0, few, next.took.lines);
      short = short;
      none = h.1;
    }) (h.0, omega (arith, few, next.took.lines), short, h.1) tt (λ e. cc)
after_line text after old new line next e few short (Some (verdict.Bad n fault.TooLong)) h =
    absurd h
after_line text after old new line next e few short (Some (verdict.Bad n fault.TooMany)) h =
    absurd h
after_line text after old new line next e few short (Some (verdict.Bad n fault.Unfinished)) h =
    absurd h

pub after_ok : (text after : List ℕ) (old new : Judge) (line : List ℕ) (next : IsNext text old line)
    → next.lines ≡ lines_of after → old.lines < 2 ^ 40 → length line ≤ 20000
    → {E : Type 0} (r : Result (Option Verdict) E)
    → IfOk r (AfterLine new next.taken next.before line) → IfOk r (AfterTurn text after new)
after_ok text after old new line next e few short (Ok v) h =
    after_line text after old new line next e few short v h
after_ok text after old new line next e few short (Err fault) h = tt

-- ---- the end

all_taken : (text : List ℕ) (taken : List (List ℕ)) → lines_of text ≡ taken ++ lines_of []
    → lines_of text ≡ taken
unfolding lines_of
all_taken text taken e = e ∙ append-nil taken

all_left : (text : List ℕ) (j : Judge) (way : IsOnTheWay text [] j) → j.lines ≤ 2 ^ 40
    → HasLeft text way.before []
all_left text j way few = record {
  taken = way.taken;
  parts = all_taken text way.taken way.parts ∙ sym (append-nil way.taken);
  means = way.took.means;
  right = right_before j way.taken way.before way.took;
  few = omega (arith, few, way.took.lines);
}

pub at_last : (text : List ℕ) (j : Judge) → IsOnTheWay text [] j → j.lines ≤ 2 ^ 40
    → j.ended ≡ true → Decides text verdict.Yes
at_last text j way few ended = record {
  is = record {
    trace = way.before;
    lines = subst (λ (ts : List (List ℕ)). AreLines ts way.before)
        (sym (all_taken text way.taken way.parts)) (as_lines way.taken way.before way.took.means);
    closed = closed_from way.before way.took.placed (sym way.took.ended ∙ ended);
    accepted = way.took.saw.accepted;
    few = omega (arith, few, way.took.lines);
  };
  only = only_yes text way.before (all_left text j way few) (sym way.took.ended ∙ ended);
}

only_number : (text : List ℕ) (before : Trace) (n : ℕ) → n ≡ length before + 1
    → ((w : Verdict) → IsVerdictOn text w → w ≡ verdict.Bad (length before + 1) fault.Unfinished)
    → (w : Verdict) → IsVerdictOn text w → w ≡ verdict.Bad n fault.Unfinished
only_number text before n same only w is =
    only w is ∙ ap (λ (i : ℕ). verdict.Bad i fault.Unfinished) (sym same)

pub unfinished : (text : List ℕ) (j : Judge) → IsOnTheWay text [] j → j.lines ≤ 2 ^ 40
    → j.ended ≡ false → Decides text (verdict.Bad (j.lines + 1) fault.Unfinished)
unfinished text j way few ended =
    let going : has_ended way.before ≡ false = sym way.took.ended ∙ ended in
    let number : j.lines + 1 ≡ length way.before + 1 = ap (λ (n : ℕ). n + 1) way.took.lines in
    record {
      is = record {
        before = way.before;
        lines = subst (λ (ts : List (List ℕ)). AreLines ts way.before)
            (sym (all_taken text way.taken way.parts))
            (as_lines way.taken way.before way.took.means);
        right = right_before j way.taken way.before way.took;
        few = omega (arith, few, way.took.lines);
        goes_on = going;
        number = number;
      };
      only = only_number text way.before (j.lines + 1) number
          (only_unfinished text way.before (all_left text j way few) going);
    }
