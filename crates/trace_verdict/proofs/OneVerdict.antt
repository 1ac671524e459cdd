-- No text has two verdicts: where a judge gives one, no other can be given.
use Rattle.std.proofs.Common.{◌≡◌, ℕ, ◌+◌, ◌≤◌, ◌^◌, ◌⊎◌, inl, inr, true, false, List, [], ◌∷◌, ◌++◌, length, refl, sym, ap, subst, ◌∙◌, arith}
use Rattle.std.proofs.lemmas.List.{append-nil}
use Rattle.line_reader.specs.Lines.{lines_of}
use Rattle.trace_text.specs.Grammar.{IsTraceLine}
use Rattle.trace_types.specs.declared.line.Line.{Line}
use Rattle.trace_claims.specs.Trace.{Trace}
use Rattle.trace_verdict.specs.declared.verdict.Unread.TheVariants as fault
use Rattle.trace_verdict.specs.declared.verdict.Verdict.{Verdict}
use Rattle.trace_verdict.specs.declared.verdict.Verdict.TheVariants as verdict
use Rattle.trace_verdict.specs.Judging.{MeanOnly, MeansOnly}
use Rattle.trace_verdict.specs.Places.{has_ended}
use Rattle.trace_verdict.specs.Verdicts.{AreLines, AreRight, Comes, IsRightText, IsVerdictOn, Lacks}
use Rattle.trace_verdict.proofs.Causes.{Cause, IsAlone, NextOf, made_alone, next_amid, not_next, same_cause}
use Rattle.trace_verdict.proofs.Closing.{closed_ended, closed_places}

-- ---- where the line of another verdict stands

-- the lines that were taken of a text, of which these are left
pub record HasLeft (text : List ℕ) (before : Trace) (rest : List (List ℕ)) : Type 0 where
  pub taken : List (List ℕ)
  pub parts : lines_of text ≡ taken ++ rest
  pub means : MeanOnly taken before
  pub right : AreRight before
  pub few : length before ≤ 2 ^ 40

record IsEarlier (before other : Trace) (line : List ℕ) : Type 0 where
  means : Line
  later : Trace
  only : MeansOnly line means
  parts : before ≡ other ++ means ∷ later

record IsThere (before other : Trace) (rest : List (List ℕ)) (line : List ℕ) : Type 0 where
  lines : List (List ℕ)
  same : other ≡ before
  parts : rest ≡ line ∷ lines

record IsLater (before other : Trace) (rest : List (List ℕ)) : Type 0 where
  line : List ℕ
  lines : List (List ℕ)
  means : Line
  later : Trace
  left : rest ≡ line ∷ lines
  spelled : IsTraceLine line means
  short : length line ≤ 20000
  parts : other ≡ before ++ means ∷ later

abbrev Stands : (before other : Trace) → List (List ℕ) → List ℕ → Type 0
Stands before other rest line =
    IsEarlier before other line ⊎ (IsThere before other rest line ⊎ IsLater before other rest)

later_by : (l m : Line) (before other : Trace) (rest : List (List ℕ)) (line : List ℕ) → m ≡ l
    → Stands before other rest line → Stands (l ∷ before) (m ∷ other) rest line
later_by l m before other rest line same (inl x) = inl (record {
  means = x.means;
  later = x.later;
  only = x.only;
  parts = ap (λ (b : Trace). l ∷ b) x.parts
      ∙ ap (λ (k : Line). k ∷ other ++ x.means ∷ x.later) (sym same);
})
later_by l m before other rest line same (inr (inl x)) = inr (inl (record {
  lines = x.lines;
  parts = x.parts;
  same = ap (λ (k : Line). k ∷ other) same ∙ ap (λ (b : Trace). l ∷ b) x.same;
}))
later_by l m before other rest line same (inr (inr x)) = inr (inr (record {
  line = x.line;
  lines = x.lines;
  means = x.means;
  later = x.later;
  left = x.left;
  spelled = x.spelled;
  short = x.short;
  parts = ap (λ (k : Line). k ∷ other) same ∙ ap (λ (b : Trace). l ∷ b) x.parts;
}))

stands : (taken : List (List ℕ)) (before : Trace) (rest front : List (List ℕ)) (other : Trace)
    (line : List ℕ) (back : List (List ℕ)) → MeanOnly taken before → AreLines front other
    → taken ++ rest ≡ front ++ line ∷ back → Stands before other rest line
stands [] [] rest [] [] line back h lines e =
    inr (inl (record { lines = back; same = refl; parts = e }))
stands [] [] rest (u ∷ front) (m ∷ other) line back h lines e = inr (inr (record {
  line = u;
  lines = front ++ line ∷ back;
  means = m;
  later = other;
  left = e;
  spelled = lines.0.0;
  short = lines.0.1;
  parts = refl;
}))
stands (t ∷ taken) (l ∷ before) rest [] [] line back h lines e =
    let first : t ≡ line = cc in inl (record {
      means = l;
      later = before;
      parts = refl;
      only = subst (λ (x : List ℕ). MeansOnly x l) first h.0;
    })
stands (t ∷ taken) (l ∷ before) rest (u ∷ front) (m ∷ other) line back h lines e =
    let first : u ≡ t = cc in
    let more : taken ++ rest ≡ front ++ line ∷ back = cc in
    later_by l m before other rest line
    (h.0.only m (subst (λ (x : List ℕ). IsTraceLine x m) first lines.0.0))
    (stands taken before rest front other line back h.1 lines.1 more)
stands [] (l ∷ before) rest front other line back h lines e = absurd h
stands (t ∷ taken) [] rest front other line back h lines e = absurd h
stands taken before rest [] (m ∷ other) line back h lines e = absurd lines
stands taken before rest (u ∷ front) [] line back h lines e = absurd lines

-- ---- a verdict at a line is the only one

-- a verdict names the line with this number for this cause
record AtLine (text : List ℕ) (w : Verdict) : Type 0 where
  n : ℕ
  other : Trace
  line : List ℕ
  comes : Comes text n other line
  cause : Cause n other line w

-- the number of a line that a cause names isn't far
near : (n : ℕ) (before : Trace) (line : List ℕ) (w : Verdict) → Cause n before line w
    → n ≤ 2 ^ 40 + 1
near n before line (verdict.No k b) is = omega (arith, is.1)
near n before line (verdict.Bad k fault.Grammar) is = omega (arith, is.1)
near n before line (verdict.Bad k fault.TooLong) is = omega (arith, is.1)
near n before line (verdict.Bad k fault.TooMany) is = omega (arith, is.1)
near n before line verdict.Yes is = absurd is
near n before line (verdict.Bad k fault.Unfinished) is = absurd is

-- the line of another verdict was taken already
not_earlier : (text : List ℕ) (before : Trace) (rest : List (List ℕ)) (w : Verdict)
    → HasLeft text before rest → (at : AtLine text w) → IsEarlier before at.other at.line → ⊥
not_earlier text before rest w here at x =
    not_next at.other at.line w (subst (λ (n : ℕ). Cause n at.other at.line w) at.comes.number
    at.cause) (made_alone at.other at.line x.means w at.n x.only at.cause)
    (next_amid at.other at.line x.means x.later before x.parts here.right here.few x.only.spelled
    x.only.short)

-- another verdict's line stands behind what is left, which has a line that comes next
next_there : (text : List ℕ) (before : Trace) (line : List ℕ) (lines : List (List ℕ)) (w : Verdict)
    → (at : AtLine text w) → IsLater before at.other (line ∷ lines) → NextOf before line
next_there text before line lines w at x =
    let same : x.line ≡ line = cc in
    subst (NextOf before) same (next_amid before x.line x.means x.later at.other x.parts
    at.comes.right (omega (arith, near at.n at.other at.line w at.cause, at.comes.number)) x.spelled
    x.short)

where_it_is : (text : List ℕ) (before : Trace) (rest : List (List ℕ)) (w : Verdict)
    → HasLeft text before rest → (at : AtLine text w) → Stands before at.other rest at.line
where_it_is text before rest w here at =
    stands here.taken before rest at.comes.taken at.other at.line at.comes.rest here.means
    at.comes.lines (sym here.parts ∙ at.comes.parts)

-- the cause of another verdict at the same line is the same
same_there : (text : List ℕ) (before : Trace) (line : List ℕ) (lines : List (List ℕ))
    (v w : Verdict) → Cause (length before + 1) before line v → IsAlone before line v
    → (at : AtLine text w) → IsThere before at.other (line ∷ lines) at.line → w ≡ v
same_there text before line lines v w is alone at x =
    let same : at.line ≡ line = cc in
    let number : at.n ≡ length before + 1 =
    at.comes.number ∙ ap (λ (b : Trace). length b + 1) x.same in
    same_cause (length before + 1) before line v w is alone
    (subst (λ (n : ℕ). Cause n before line w) number
    (subst (λ (b : Trace). Cause at.n b line w) x.same
    (subst (λ (t : List ℕ). Cause at.n at.other t w) same at.cause)))

by_place : (text : List ℕ) (before : Trace) (line : List ℕ) (lines : List (List ℕ)) (v w : Verdict)
    → HasLeft text before (line ∷ lines) → Cause (length before + 1) before line v
    → IsAlone before line v → AtLine text w → w ≡ v
by_place text before line lines v w here is alone at =
    elim (where_it_is text before (line ∷ lines) w here at) [
      | inl x ↦ absurd (not_earlier text before (line ∷ lines) w here at x)
      | inr (inl x) ↦ same_there text before line lines v w is alone at x
      | inr (inr x) ↦ absurd (not_next before line v is alone
          (next_there text before line lines w at x))
    ]

-- ---- a text whose lines are all right

right_of : (text : List ℕ) (r : IsRightText text) → AreRight r.trace
right_of text r = record { placed = closed_places r.trace r.closed; accepted = r.accepted }

-- the trace of a text begins with what its first lines mean
record Begins (before : Trace) (texts : List (List ℕ)) (trace : Trace) : Type 0 where
  rest : Trace
  parts : trace ≡ before ++ rest
  lines : AreLines texts rest

begins_so : (taken : List (List ℕ)) (before : Trace) (texts : List (List ℕ)) (trace : Trace)
    → MeanOnly taken before → AreLines (taken ++ texts) trace → Begins before texts trace
begins_so [] [] texts trace h lines = record { rest = trace; parts = refl; lines = lines }
begins_so [] (l ∷ before) texts trace h lines = absurd h
begins_so (t ∷ taken) [] texts trace h lines = absurd h
begins_so (t ∷ taken) (l ∷ before) texts [] h lines = absurd lines
begins_so (t ∷ taken) (l ∷ before) texts (m ∷ trace) h lines =
    let more = begins_so taken before texts trace h.1 lines.1 in
    record {
      rest = more.rest;
      parts = ap (λ (x : Line). x ∷ trace) (h.0.only m lines.0.0)
          ∙ ap (λ (x : Trace). l ∷ x) more.parts;
      lines = more.lines;
    }

begun : (text : List ℕ) (before : Trace) (rest : List (List ℕ)) (trace : Trace)
    → HasLeft text before rest → AreLines (lines_of text) trace → Begins before rest trace
begun text before rest trace here lines = begins_so here.taken before rest trace here.means
    (subst (λ (ts : List (List ℕ)). AreLines ts trace) here.parts lines)

next_begun : (before : Trace) (line : List ℕ) (lines : List (List ℕ)) (trace : Trace)
    → Begins before (line ∷ lines) trace → AreRight trace → length trace ≤ 2 ^ 40
    → NextOf before line
next_begun before line lines trace b right few = with_first b.rest b.parts b.lines
  where
    with_first : (rest : Trace) → trace ≡ before ++ rest → AreLines (line ∷ lines) rest
        → NextOf before line
    with_first [] parts are = absurd are
    with_first (m ∷ rest) parts are =
        next_amid before line m rest trace parts right few are.0.0 are.0.1

-- A VERDICT AT A LINE is the only one of its text
pub only_at : (text : List ℕ) (before : Trace) (line : List ℕ) (lines : List (List ℕ)) (v : Verdict)
    → HasLeft text before (line ∷ lines) → Cause (length before + 1) before line v
    → IsAlone before line v → (w : Verdict) → IsVerdictOn text w → w ≡ v
only_at text before line lines v here is alone verdict.Yes right =
    absurd (not_next before line v is alone (next_begun before line lines right.trace
    (begun text before (line ∷ lines) right.trace here right.lines) (right_of text right) right.few))
only_at text before line lines v here is alone (verdict.Bad n fault.Unfinished) lacks =
    absurd (not_next before line v is alone (next_begun before line lines lacks.before
    (begun text before (line ∷ lines) lacks.before here lacks.lines) lacks.right lacks.few))
only_at text before line lines v here is alone (verdict.No n b) w =
    by_place text before line lines v (verdict.No n b) here is alone (record {
      n = n;
      other = w.before;
      line = w.line;
      comes = w.comes;
      cause = (refl, w.few, w.short, w.breaks);
    })
only_at text before line lines v here is alone (verdict.Bad n fault.Grammar) w =
    by_place text before line lines v (verdict.Bad n fault.Grammar) here is alone (record {
      n = n;
      other = w.before;
      line = w.line;
      comes = w.comes;
      cause = (refl, w.few, w.short, w.none);
    })
only_at text before line lines v here is alone (verdict.Bad n fault.TooLong) w =
    by_place text before line lines v (verdict.Bad n fault.TooLong) here is alone (record {
      n = n;
      other = w.before;
      line = w.line;
      comes = w.comes;
      cause = (refl, w.few, w.long);
    })
only_at text before line lines v here is alone (verdict.Bad n fault.TooMany) w =
    by_place text before line lines v (verdict.Bad n fault.TooMany) here is alone (record {
      n = n;
      other = w.before;
      line = w.line;
      comes = w.comes;
      cause = (refl, w.past);
    })

-- ---- at the end

none_left : (before rest : Trace) → AreLines [] rest → before ++ rest ≡ before
none_left before [] h = append-nil before
none_left before (l ∷ rest) h = absurd h

-- all lines were taken, so the trace of the text is this one
pub all_begun : (text : List ℕ) (before trace : Trace) → HasLeft text before []
    → AreLines (lines_of text) trace → trace ≡ before
all_begun text before trace here lines =
    let b = begun text before [] trace here lines in
    b.parts ∙ none_left before b.rest b.lines

none_at : (text : List ℕ) (before : Trace) (w : Verdict) → HasLeft text before []
    → AtLine text w → ⊥
none_at text before w here at = elim (where_it_is text before [] w here at) [
  | inl x ↦ not_earlier text before [] w here at x
  | inr (inl x) ↦ cc
  | inr (inr x) ↦ cc
]

-- of a text of which all lines are right no line is named
pub names_no_line : (text : List ℕ) (before : Trace) (w : Verdict) → HasLeft text before []
    → IsVerdictOn text w → (w ≡ verdict.Yes) ⊎ ((n : ℕ) × (w ≡ verdict.Bad n fault.Unfinished))
names_no_line text before verdict.Yes here w = inl refl
names_no_line text before (verdict.Bad n fault.Unfinished) here w = inr (n, refl)
names_no_line text before (verdict.No n b) here w =
    absurd (none_at text before (verdict.No n b) here (record {
      n = n;
      other = w.before;
      line = w.line;
      comes = w.comes;
      cause = (refl, w.few, w.short, w.breaks);
    }))
names_no_line text before (verdict.Bad n fault.Grammar) here w =
    absurd (none_at text before (verdict.Bad n fault.Grammar) here (record {
      n = n;
      other = w.before;
      line = w.line;
      comes = w.comes;
      cause = (refl, w.few, w.short, w.none);
    }))
names_no_line text before (verdict.Bad n fault.TooLong) here w =
    absurd (none_at text before (verdict.Bad n fault.TooLong) here (record {
      n = n;
      other = w.before;
      line = w.line;
      comes = w.comes;
      cause = (refl, w.few, w.long);
    }))
names_no_line text before (verdict.Bad n fault.TooMany) here w =
    absurd (none_at text before (verdict.Bad n fault.TooMany) here (record {
      n = n;
      other = w.before;
      line = w.line;
      comes = w.comes;
      cause = (refl, w.past);
    }))

ended_twice : (text : List ℕ) (before : Trace) (n : ℕ) → HasLeft text before []
    → has_ended before ≡ true → Lacks text n → ⊥
ended_twice text before n here ended lacks =
    let same = all_begun text before lacks.before here lacks.lines in
    let both : true ≡ false = sym ended ∙ ap has_ended (sym same) ∙ lacks.goes_on in absurd cc

unended : (text : List ℕ) (before : Trace) → HasLeft text before [] → has_ended before ≡ false
    → IsRightText text → ⊥
unended text before here going right =
    let same = all_begun text before right.trace here right.lines in
    let both : true ≡ false =
    sym (closed_ended right.trace right.closed) ∙ ap has_ended same ∙ going in absurd cc

-- YES is the only verdict on a right text
pub only_yes : (text : List ℕ) (before : Trace) → HasLeft text before [] → has_ended before ≡ true
    → (w : Verdict) → IsVerdictOn text w → w ≡ verdict.Yes
only_yes text before here ended verdict.Yes is = refl
only_yes text before here ended (verdict.Bad n fault.Unfinished) is =
    absurd (ended_twice text before n here ended is)
only_yes text before here ended w is = elim (names_no_line text before w here is) [
  | inl same ↦ same
  | inr (n, e) ↦ absurd cc
]

-- UNFINISHED is the only one where no line is the last
pub only_unfinished : (text : List ℕ) (before : Trace) → HasLeft text before []
    → has_ended before ≡ false → (w : Verdict) → IsVerdictOn text w
    → w ≡ verdict.Bad (length before + 1) fault.Unfinished
only_unfinished text before here going verdict.Yes is = absurd (unended text before here going is)
only_unfinished text before here going (verdict.Bad n fault.Unfinished) is =
    ap (λ (i : ℕ). verdict.Bad i fault.Unfinished)
    (is.number ∙ ap (λ (b : Trace). length b + 1)
    (all_begun text before is.before here is.lines))
only_unfinished text before here going w is = elim (names_no_line text before w here is) [
  | inl same ↦ absurd cc
  | inr (n, e) ↦ absurd cc
]
