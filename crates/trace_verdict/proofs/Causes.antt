-- Why a verdict is given at a line, and that a line that comes next gives no cause for one.
use Rattle.std.proofs.Common.{◌≡◌, ℕ, zero, suc, ◌+◌, ◌≤◌, ◌<◌, ◌^◌, ◌⊎◌, inl, inr, List, [], ◌∷◌, ◌++◌, length, refl, sym, ap, subst, ◌∙◌, append_assoc, arith, length-append}
use Rattle.std.proofs.lemmas.List.{append-nil}
use Rattle.trace_text.specs.Grammar.{IsTraceLine}
use Rattle.trace_types.specs.declared.line.Line.{Line}
use Rattle.trace_claims.specs.Trace.{AtEachPlace, Trace}
use Rattle.trace_check.proofs.BreachLaws.{accepts_less, first_breaks}
use Rattle.trace_check.specs.declared.breach.Breach.{Breach}
use Rattle.trace_check.specs.declared.breach.Breach.TheVariants as breach
use Rattle.trace_check.specs.Breaches.{IsAccepted, IsFirst, rank}
use Rattle.trace_verdict.specs.declared.verdict.Unread.TheVariants as fault
use Rattle.trace_verdict.specs.declared.verdict.Verdict.{Verdict}
use Rattle.trace_verdict.specs.declared.verdict.Verdict.TheVariants as verdict
use Rattle.trace_verdict.specs.Judging.{BreaksAlone, MeansOnly}
use Rattle.trace_verdict.specs.Places.{CanFollow}
use Rattle.trace_verdict.specs.Verdicts.{AreRight, Breaks, HasNoPlace}
use Rattle.trace_verdict.proofs.Closing.{place_amid}

-- ---- lines that come next

accepts_front : (before rest : Trace) → IsAccepted (before ++ rest) → IsAccepted before
accepts_front before [] a = subst IsAccepted (append-nil before) a
accepts_front before (l ∷ rest) a = (accepts_less before l (accepts_front (before ++ l ∷ []) rest
    (subst IsAccepted (sym (append_assoc before (l ∷ []) rest)) a))).0

-- a line of a trace comes next, and breaks nothing
pub record NextOf (before : Trace) (line : List ℕ) : Type 0 where
  means : Line
  spelled : IsTraceLine line means
  short : length line ≤ 20000
  follows : CanFollow before means
  accepted : IsAccepted (before ++ means ∷ [])
  few : length before + 1 ≤ 2 ^ 40

pub next_amid : (before : Trace) (line : List ℕ) (m : Line) (later trace : Trace)
    → trace ≡ before ++ m ∷ later → AreRight trace → length trace ≤ 2 ^ 40
    → IsTraceLine line m → length line ≤ 20000 → NextOf before line
next_amid before line m later trace parts right few spelled short = record {
  means = m;
  spelled = spelled;
  short = short;
  follows = place_amid CanFollow [] before m later
      (subst (AtEachPlace CanFollow) parts right.placed);
  accepted = accepts_front (before ++ m ∷ []) later
      (subst IsAccepted (parts ∙ sym (append_assoc before (m ∷ []) later)) right.accepted);
  few = omega (arith, few, ap length parts, length-append before (m ∷ later));
}

-- ---- causes

-- why a verdict is given at the line with this number
abbrev pub Cause : ℕ → Trace → List ℕ → Verdict → Type 0
Cause n before line verdict.Yes = ⊥
Cause n before line (verdict.No k b) =
    (k ≡ n) × (n ≤ 2 ^ 40) × (length line ≤ 20000) × Breaks before line b
Cause n before line (verdict.Bad k fault.Grammar) =
    (k ≡ n) × (n ≤ 2 ^ 40) × (length line ≤ 20000) × HasNoPlace before line
Cause n before line (verdict.Bad k fault.TooLong) =
    (k ≡ n) × (n ≤ 2 ^ 40) × (20000 < length line)
Cause n before line (verdict.Bad k fault.TooMany) = (k ≡ n) × (n ≡ 2 ^ 40 + 1)
Cause n before line (verdict.Bad k fault.Unfinished) = ⊥

-- what breaks something is the spelling of no other line
abbrev pub IsAlone : Trace → List ℕ → Verdict → Type 0
IsAlone before line (verdict.No k b) = BreaksAlone before line b
IsAlone before line v = Unit {0}

-- ---- one cause at a line

either : (a b : ℕ) → (a < b) ⊎ ((b < a) ⊎ (a ≡ b))
either zero zero = inr (inr refl)
either zero (suc b) = inl (omega arith)
either (suc a) zero = inr (inl (omega arith))
either (suc a) (suc b) = elim (either a b) [
  | inl less ↦ inl (omega (arith, less))
  | inr (inl more) ↦ inr (inl (omega (arith, more)))
  | inr (inr same) ↦ inr (inr (omega (arith, same)))
]

rank_same : (b c : Breach) → rank b ≡ rank c → b ≡ c
rank_same breach.Book breach.Book e = refl
rank_same breach.Order breach.Order e = refl
rank_same breach.Answer breach.Answer e = refl
rank_same breach.Ack breach.Ack e = refl
rank_same breach.Promise breach.Promise e = refl
rank_same b c e = absurd (omega (arith, e))

first_same : (before : Trace) (l : Line) (b c : Breach) → IsFirst b before l → IsFirst c before l
    → b ≡ c
first_same before l b c is other = elim (either (rank b) (rank c)) [
  | inl less ↦ absurd (is.broken (other.kept b less))
  | inr (inl more) ↦ absurd (other.broken (is.kept c more))
  | inr (inr same) ↦ rank_same b c same
]

same_breach : (before : Trace) (line : List ℕ) (b c : Breach) → BreaksAlone before line b
    → Breaks before line c → c ≡ b
same_breach before line b c alone other = first_same before alone.means c b
    (subst (IsFirst c before) (alone.only.only other.means other.spelled) other.first) alone.first

pub same_cause : (n : ℕ) (before : Trace) (line : List ℕ) (v w : Verdict) → Cause n before line v
    → IsAlone before line v → Cause n before line w → w ≡ v
same_cause n before line (verdict.No k b) (verdict.No j c) is alone other =
    let breach_is = same_breach before line b c alone other.3 in
    let number_is : j ≡ k = other.0 ∙ sym is.0 in
    rw (breach_is, number_is) refl
same_cause n before line (verdict.No k b) (verdict.Bad j fault.Grammar) is alone other =
    absurd (other.3 alone.means alone.only.spelled alone.follows)
same_cause n before line (verdict.No k b) (verdict.Bad j fault.TooLong) is alone other =
    absurd (omega (arith, is.2, other.2))
same_cause n before line (verdict.No k b) (verdict.Bad j fault.TooMany) is alone other =
    absurd (omega (arith, is.1, other.1))
same_cause n before line (verdict.Bad k fault.Grammar) (verdict.No j c) is alone other =
    absurd (is.3 other.3.means other.3.spelled other.3.follows)
same_cause n before line (verdict.Bad k fault.Grammar) (verdict.Bad j fault.Grammar) is a other =
    ap (λ (i : ℕ). verdict.Bad i fault.Grammar) (other.0 ∙ sym is.0)
same_cause n before line (verdict.Bad k fault.Grammar) (verdict.Bad j fault.TooLong) is a other =
    absurd (omega (arith, is.2, other.2))
same_cause n before line (verdict.Bad k fault.Grammar) (verdict.Bad j fault.TooMany) is a other =
    absurd (omega (arith, is.1, other.1))
same_cause n before line (verdict.Bad k fault.TooLong) (verdict.No j c) is alone other =
    absurd (omega (arith, is.2, other.2))
same_cause n before line (verdict.Bad k fault.TooLong) (verdict.Bad j fault.Grammar) is a other =
    absurd (omega (arith, is.2, other.2))
same_cause n before line (verdict.Bad k fault.TooLong) (verdict.Bad j fault.TooLong) is a other =
    ap (λ (i : ℕ). verdict.Bad i fault.TooLong) (other.0 ∙ sym is.0)
same_cause n before line (verdict.Bad k fault.TooLong) (verdict.Bad j fault.TooMany) is a other =
    absurd (omega (arith, is.1, other.1))
same_cause n before line (verdict.Bad k fault.TooMany) (verdict.No j c) is alone other =
    absurd (omega (arith, is.1, other.1))
same_cause n before line (verdict.Bad k fault.TooMany) (verdict.Bad j fault.Grammar) is a other =
    absurd (omega (arith, is.1, other.1))
same_cause n before line (verdict.Bad k fault.TooMany) (verdict.Bad j fault.TooLong) is a other =
    absurd (omega (arith, is.1, other.1))
same_cause n before line (verdict.Bad k fault.TooMany) (verdict.Bad j fault.TooMany) is a other =
    ap (λ (i : ℕ). verdict.Bad i fault.TooMany) (other.0 ∙ sym is.0)
same_cause n before line verdict.Yes w is alone other = absurd is
same_cause n before line (verdict.Bad k fault.Unfinished) w is alone other = absurd is
same_cause n before line v verdict.Yes is alone other = absurd other
same_cause n before line v (verdict.Bad j fault.Unfinished) is alone other = absurd other

-- ---- a line that comes next has no cause

not_broken : (before : Trace) (line : List ℕ) (b : Breach) → BreaksAlone before line b
    → NextOf before line → ⊥
not_broken before line b alone next = first_breaks before alone.means b alone.first
    (subst (λ (m : Line). IsAccepted (before ++ m ∷ []))
    (alone.only.only next.means next.spelled) next.accepted)

pub not_next : (before : Trace) (line : List ℕ) (v : Verdict) → Cause (length before + 1) before line v
    → IsAlone before line v → NextOf before line → ⊥
not_next before line (verdict.No k b) is alone next = not_broken before line b alone next
not_next before line (verdict.Bad k fault.Grammar) is alone next =
    is.3 next.means next.spelled next.follows
not_next before line (verdict.Bad k fault.TooLong) is alone next =
    omega (arith, is.2, next.short)
not_next before line (verdict.Bad k fault.TooMany) is alone next = omega (arith, is.1, next.few)
not_next before line verdict.Yes is alone next = is
not_next before line (verdict.Bad k fault.Unfinished) is alone next = is

-- what breaks something where a line means this alone breaks it alone
pub made_alone : (before : Trace) (line : List ℕ) (m : Line) (w : Verdict) (n : ℕ)
    → MeansOnly line m → Cause n before line w → IsAlone before line w
made_alone before line m (verdict.No k b) n only is = record {
  means = m;
  only = only;
  follows = subst (CanFollow before) (only.only is.3.means is.3.spelled) is.3.follows;
  first = subst (IsFirst b before) (only.only is.3.means is.3.spelled) is.3.first;
}
made_alone before line m w n only is = tt
