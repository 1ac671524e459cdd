-- The source of a choice.
use Rattle.std.proofs.Common.{◌≡◌, ℕ, ◌<◌, ◌≤◌, ◌&&◌, ◌==◌, Bool, true, false, Option, None, Some, nat_lt, refl, ap, sym, ◌∙◌, subst, inl, inr, arith, ⊎_elim, true≢false, if◌then◌else◌}
use Rattle.std.specs.Prelude.{⊤}
use Rattle.std.proofs.lemmas.Bool.{cases_lt, eqb-true, eq-eqb, ltb-false, ltb-true}
use Rattle.group_rules.specs.Choose.{accepted_of, better, greatest, longer, source_of}
use Rattle.group_rules.specs.Limits.{is_log}
use Rattle.group_rules.specs.Places.{Zero, One, Two, Place, Trio, get, number}
use Rattle.group_rules.specs.State.{Empty, Held, Log, Lost, Report}
use Rattle.view_form.specs.Laws.{IsNotBefore, Joined}

-- ---- tests

pub log_is : (h : Held) → is_log h ≡ true → h ≡ Log
log_is Log e = refl
log_is Lost e = absurd (true≢false (sym e))
log_is Empty e = absurd (true≢false (sym e))

left : (a b : Bool) → (a && b) ≡ true → a ≡ true
left true b e = refl
left false b e = e

right : (a b : Bool) → (a && b) ≡ true → b ≡ true
right true b e = e
right false b e = absurd (true≢false (sym e))

-- a held server with this view passes the test
passes : (v : ℕ) (t : Report) → t.held ≡ Log → t.accepted ≡ v
    → (is_log t.held && (t.accepted == v)) ≡ true
passes v t l a = let one : is_log t.held ≡ true = ap is_log l in let two : (t.accepted == v)
    ≡ true = eq-eqb t.accepted v a in rw (one, two) refl

-- ---- the best so far

-- it joined and is held, with this view
abbrev pub IsSource : Trio (Option Report) → ℕ → Option (Place × Report) → Type 0
IsSource reports v None = ⊤
IsSource reports v (Some b) = Joined reports b.0 b.1 × (b.1.held ≡ Log) × (b.1.accepted ≡ v)

-- it isn't behind q
abbrev pub Covers : ℕ → Option (Place × Report) → Place → Option Report → Type 0
Covers v None q o = (t : Report) → o ≡ Some t → t.held ≡ Log → t.accepted ≡ v → ⊥
Covers v (Some b) q o = (t : Report) → o ≡ Some t → t.held ≡ Log → t.accepted ≡ v
    → IsNotBefore b.0 b.1 q t

-- its number is at most n
abbrev pub AtMost : ℕ → Option (Place × Report) → Type 0
AtMost n None = ⊤
AtMost n (Some b) = number b.0 ≤ n

-- what is kept by every step: best is a source, isn't behind those before, and has a number of at
-- most n
abbrev pub Longer : Trio (Option Report) → ℕ → Place → Report → Option (Place × Report)
    → Option (Place × Report) → Type 0
Longer reports v q t best new = IsSource reports v new × AtMost (number q) new × Covers v new q
    (Some t)
    × ((r : Place) (o : Option Report) → Covers v best r o → Covers v new r o)

-- q is longer, or it isn't
longer_by : (b : Bool) (reports : Trio (Option Report)) (v : ℕ) (q : Place) (t : Report)
    (c : Place × Report) → Joined reports q t → t.held ≡ Log → t.accepted ≡ v
    → IsSource reports v (Some c) → number c.0 ≤ number q → nat_lt c.1.top t.top ≡ b
    → Longer reports v q t (Some c) (if b then Some (q, t) else Some c)
longer_by true reports v q t c j l a is below test =
    let more = ltb-true c.1.top t.top test in (
      (j, l, a),
      omega arith,
      (λ u e m n. inr (
        (let same : t
            ≡ u = cc in ap (λ (x : Report). x.top) (sym same)),
        omega arith,
      )),
      (λ r o h u e m n. let x = h u e m n in ⊎_elim (λ (i : u.top < c.1.top). inl (omega
          (arith, i, more))) (λ (i : (u.top
          ≡ c.1.top) × (number c.0 ≤ number r)). inl (let k = i.0 in omega
          (arith, k, more))) x),
    )
longer_by false reports v q t c j l a is below test =
    let less = ltb-false c.1.top t.top test in (
      is,
      below,
      (λ u e m n. let same : t ≡ u = cc in subst (λ (x : Report). IsNotBefore c.0 c.1 q x) same
          (⊎_elim (λ (i : t.top < c.1.top). inl i) (λ (i : c.1.top ≤ t.top). inr (
            omega
                (arith, i, less),
            below,
          )) (cases_lt t.top c.1.top))),
      (λ r o h. h),
    )

longer_one : (reports : Trio (Option Report)) (v : ℕ) (q : Place) (t : Report) (best : Option
    (Place × Report)) → Joined reports q t → t.held ≡ Log → t.accepted ≡ v
    → IsSource reports v best → AtMost (number q) best → Longer reports v q t best (longer q t best)
longer_one reports v q t None j l a is below = (
  (j, l, a),
  omega arith,
  (λ u e m n. inr ((let same : t ≡ u = cc in ap (λ (x : Report). x.top) (sym same)), omega arith)),
  (λ r o h u e m n. absurd (h u e m n)),
)
longer_one reports v q t (Some c) j l a is below = longer_by
    (nat_lt c.1.top t.top) reports v q t c j l a is below refl

-- one step of the search
abbrev pub Better : Trio (Option Report) → ℕ → Place → Option Report → Option (Place × Report)
    → Option (Place × Report) → Type 0
Better reports v q o best new = IsSource reports v new × AtMost (number q) new × Covers v new q o
    × ((r : Place) (x : Option Report) → Covers v best r x → Covers v new r x)

-- a server that fails the test needs no cover
no_need : (v : ℕ) (q : Place) (t : Report) (best : Option (Place × Report))
    → (is_log t.held && (t.accepted == v)) ≡ false → Covers v best q (Some t)
no_need v q t None fails = λ u e l a. let same : t ≡ u = cc in
    absurd (true≢false (sym (passes v t (ap (λ (x : Report). x.held) same
    ∙ l) (ap (λ (x : Report). x.accepted) same ∙ a)) ∙ fails))
no_need v q t (Some c) fails = λ u e l a. let same : t ≡ u = cc in
    absurd (true≢false (sym (passes v t (ap (λ (x : Report). x.held) same
    ∙ l) (ap (λ (x : Report). x.accepted) same ∙ a)) ∙ fails))

absent : (v : ℕ) (q : Place) (best : Option (Place × Report)) → Covers v best q None
absent v q None = λ u e l a. cc
absent v q (Some c) = λ u e l a. cc

better_by : (b : Bool) (reports : Trio (Option Report)) (v : ℕ) (q : Place) (t : Report)
    (best : Option (Place × Report)) → Joined reports q t
    → IsSource reports v best → AtMost (number q) best
    → (is_log t.held && (t.accepted == v)) ≡ b
    → Better reports v q (Some t) best (if b then longer q t best else best)
better_by true reports v q t best j is below test =
    longer_one reports v q t best j (log_is t.held (left (is_log t.held) (t.accepted == v) test))
    (eqb-true t.accepted v (right (is_log t.held) (t.accepted == v) test)) is below
better_by false reports v q t best j is below test = (
  is,
  below,
  no_need v q t best test,
  (λ r x h. h),
)

better_one : (reports : Trio (Option Report)) (v : ℕ) (q : Place) (o : Option Report)
    (best : Option (Place × Report)) → get reports q ≡ o
    → IsSource reports v best → AtMost (number q) best
    → Better reports v q o best (better v best q o)
better_one reports v q None best j is below = (is, below, absent v q best, (λ r x h. h))
better_one reports v q (Some t) best j is below = better_by (is_log t.held &&
    (t.accepted == v)) reports v q t best j is below refl

up : (best : Option (Place × Report)) (m n : ℕ) → m ≤ n → AtMost m best → AtMost n best
up None m n le h = tt
up (Some c) m n le h = omega (arith, le, h)

-- what the search finds
pub record IsFound (reports : Trio (Option Report)) (v : ℕ) (best : Option
    (Place × Report)) : Type 0 where
  pub source : IsSource reports v best
  pub covers : (q : Place) → Covers v best q (get reports q)

pub source_is : (reports : Trio (Option Report)) (v : ℕ) → IsFound reports v (source_of reports v)
source_is reports v =
    let zero = better_one reports v Zero (get reports Zero) None refl tt tt in
    let one = better_one reports v One (get reports One) (better v None Zero
    (get reports Zero)) refl zero.0 (up (better v None Zero (get reports Zero)) 0 1
    (omega arith) zero.1) in
    let two = better_one reports v Two (get reports Two) (better v (better v None Zero
    (get reports Zero)) One (get reports One)) refl one.0
    (up (better v (better v None Zero (get reports Zero)) One (get reports One)) 1 2
    (omega arith) one.1) in
    record { source = two.0; covers = λ q. at q zero one two }
  where
    at : (q : Place) → Better reports v Zero (get reports Zero) None (better v None Zero
        (get reports Zero))
        → Better reports v One (get reports One) (better v None Zero (get reports Zero))
        (better v (better v None Zero (get reports Zero)) One (get reports One))
        → Better reports v Two (get reports Two) (better v (better v None Zero
        (get reports Zero)) One (get reports One)) (source_of reports v)
        → Covers v (source_of reports v) q (get reports q)
    at Zero zero one two = two.3 Zero (get reports Zero) (one.3 Zero (get reports Zero) zero.2)
    at One zero one two = two.3 One (get reports One) one.2
    at Two zero one two = two.2

-- ---- the greatest accepted view

pub greatest_is : (reports : Trio (Option Report)) (q : Place) (t : Report) → Joined reports q t
    → t.accepted ≤ greatest reports
greatest_is reports Zero t e = let x : accepted_of (get reports Zero)
    ≡ t.accepted = ap accepted_of e in omega (arith, x)
greatest_is reports One t e = let x : accepted_of (get reports One)
    ≡ t.accepted = ap accepted_of e in omega (arith, x)
greatest_is reports Two t e = let x : accepted_of (get reports Two)
    ≡ t.accepted = ap accepted_of e in omega (arith, x)
