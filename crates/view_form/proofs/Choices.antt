-- A choice in words is the machine's, and back.
use Rattle.std.proofs.Common.{◌≡◌, ℕ, ◌<◌, ◌≤◌, ◌⊎◌, Bool, true, false, Option, None, Some, max, refl, ap, sym, ◌∙◌, subst, inl, inr, arith, ⊎_elim, true≢false, if◌then◌else◌}
use Rattle.std.proofs.lemmas.Bool.{cases_lt}
use Rattle.group_rules.specs.Choose.{base_of, choice_of, greatest, horizon_of, pair_of, plan_of, source_of, storers_base}
use Rattle.group_rules.specs.Limits.{is_log}
use Rattle.group_rules.specs.Places.{IsIn, Zero, One, Two, Pair, Place, S01, S02, S12, Trio, get, is_p2}
use Rattle.group_rules.specs.State.{Log, Plan, Report}
use Rattle.view_form.specs.Laws.{ChoosesSo, Counts, FewJoined, IsChoice, Joined}
use Rattle.view_form.proofs.Sources.{IsFound, greatest_is, log_is, source_is}

-- ---- the storers

told : (reports : Trio (Option Report)) (p : Pair)
    → pair_of (get reports Zero) (get reports One) (get reports Two) ≡ Some p → (x : Place)
    → IsIn p x → (t : Report) × Joined reports x t
told reports = go (get reports Zero) (get reports One) (get reports Two) refl refl refl
  where
    go : (a b c : Option Report) → get reports Zero ≡ a → get reports One ≡ b
        → get reports Two ≡ c → (p : Pair) → pair_of a b c ≡ Some p → (x : Place) → IsIn p x
        → (t : Report) × Joined reports x t
    go (Some a) (Some b) c ea eb ec p e x i = first x (let y : p
        ≡ S01 = cc in subst (λ (z : Pair). IsIn z x) y i)
      where
        first : (x : Place) → IsIn S01 x → (t : Report) × Joined reports x t
        first Zero i = (a, ea)
        first One i = (b, eb)
        first Two i = absurd i
    go (Some a) None (Some c) ea eb ec p e x i = first x (let y : p
        ≡ S02 = cc in subst (λ (z : Pair). IsIn z x) y i)
      where
        first : (x : Place) → IsIn S02 x → (t : Report) × Joined reports x t
        first Zero i = (a, ea)
        first One i = absurd i
        first Two i = (c, ec)
    go None (Some b) (Some c) ea eb ec p e x i = first x (let y : p
        ≡ S12 = cc in subst (λ (z : Pair). IsIn z x) y i)
      where
        first : (x : Place) → IsIn S12 x → (t : Report) × Joined reports x t
        first Zero i = absurd i
        first One i = (b, eb)
        first Two i = (c, ec)
    go (Some a) None None ea eb ec p e x i = cc
    go None (Some b) None ea eb ec p e x i = cc
    go None None c ea eb ec p e x i = cc

data_first : (a b c : Option Report) (t u : Report) (p : Pair) → pair_of a b c ≡ Some p
    → a ≡ Some t → b ≡ Some u → p ≡ S01
data_first (Some a) (Some b) c t u p e x y = cc
data_first None b c t u p e x y = cc
data_first (Some a) None c t u p e x y = cc

-- ---- the greatest of numbers

pub max_is : (a b : ℕ) → (max a b ≡ a) ⊎ (max a b ≡ b)
max_is a b = ⊎_elim (λ (l : a < b). inr (omega (arith, l))) (λ (l : b ≤ a). inl (omega
    (arith, l))) (cases_lt a b)

abbrev pub horizon_all : Trio (Option Report) → ℕ
horizon_all reports = max (horizon_of (get reports Zero)) (max (horizon_of (get reports One))
    (horizon_of (get reports Two)))

horizon_is : (reports : Trio (Option Report)) (q : Place) (t : Report) → Joined reports q t
    → t.horizon ≤ horizon_all reports
horizon_is reports Zero t e = let x : horizon_of (get reports Zero)
    ≡ t.horizon = ap horizon_of e in omega (arith, x)
horizon_is reports One t e = let x : horizon_of (get reports One)
    ≡ t.horizon = ap horizon_of e in omega (arith, x)
horizon_is reports Two t e = let x : horizon_of (get reports Two)
    ≡ t.horizon = ap horizon_of e in omega (arith, x)

abbrev pub HasHorizon : Trio (Option Report) → ℕ → Type 0
HasHorizon reports h = (q : Place) × (t : Report) × Joined reports q t × (t.horizon ≡ h)

-- of the join that told it, or of the source where nobody told any
horizon_at : (reports : Trio (Option Report)) (h : ℕ) (q r : Place) (s : Report)
    (o : Option Report) → get reports q ≡ o → Joined reports r s → s.horizon ≤ h
    → h ≡ horizon_of o → HasHorizon reports h
horizon_at reports h q r s None e j le is = (r, s, j, omega (arith, le, is))
horizon_at reports h q r s (Some t) e j le is = (q, t, e, sym is)

horizon_had : (reports : Trio (Option Report)) (r : Place) (s : Report) → Joined reports r s
    → HasHorizon reports (horizon_all reports)
horizon_had reports r s j =
    let h = horizon_all reports in
    let le = horizon_is reports r s j in
    let a = horizon_of (get reports Zero) in
    let b = horizon_of (get reports One) in
    let c = horizon_of (get reports Two) in
    ⊎_elim (λ (i : max a (max b c)
    ≡ a). horizon_at reports h Zero r s (get reports Zero) refl j le i)
    (λ (i : max a (max b c) ≡ max b c). ⊎_elim (λ (k : max b c
    ≡ b). horizon_at reports h One r s (get reports One) refl j le (i ∙ k))
    (λ (k : max b c ≡ c). horizon_at reports h Two r s (get reports Two) refl j le (i
    ∙ k)) (max_is b c)) (max_is a (max b c))

-- ---- bases

base_told : (t : Report) → t.held ≡ Log → base_of (Some t) ≡ t.base
base_told t h = let yes : is_log t.held ≡ true = ap is_log h in rw yes refl

-- a data server's base among the storers'
storer_base : (reports : Trio (Option Report)) (p : Pair) (q : Place) (t : Report)
    → Joined reports q t → t.held ≡ Log → IsIn p q → is_p2 q ≡ false
    → t.base ≤ storers_base p reports
storer_base reports p q t j h i d = go p q j i d
  where
    told_at : (q : Place) → Joined reports q t → base_of (get reports q) ≡ t.base
    told_at q j = ap base_of j ∙ base_told t h

    go : (p : Pair) (q : Place) → Joined reports q t → IsIn p q → is_p2 q ≡ false
        → t.base ≤ storers_base p reports
    go S01 Zero j i d = let x = told_at Zero j in omega (arith, x)
    go S01 One j i d = let x = told_at One j in omega (arith, x)
    go S01 Two j i d = absurd i
    go S02 Zero j i d = let x = told_at Zero j in omega (arith, x)
    go S02 One j i d = absurd i
    go S02 Two j i d = absurd (true≢false d)
    go S12 Zero j i d = absurd i
    go S12 One j i d = let x = told_at One j in omega (arith, x)
    go S12 Two j i d = absurd (true≢false d)

-- the base is one of those that count
abbrev pub HasBase : Trio (Option Report) → Plan → Place → Report → ℕ → Type 0
HasBase reports p r s n = (q : Place) × (t : Report) × Joined reports q t × (t.held
    ≡ Log) × Counts p q × (t.base ≡ n)

base_by : (b : Bool) (reports : Trio (Option Report)) (p : Plan) (r : Place) (s : Report) (n : ℕ)
    (q : Place) (t : Report) → r ≡ p.source → Joined reports r s → s.held ≡ Log → s.base ≤ n
    → Joined reports q t → IsIn p.storers q → is_p2 q ≡ false → is_log t.held ≡ b
    → n ≡ (if b then t.base else 0) → HasBase reports p r s n
base_by true reports p r s n q t source j l le joined i d held is =
    (q, t, joined, log_is t.held held, inr (i, d), sym is)
base_by false reports p r s n q t source j l le joined i d held is =
    (r, s, j, l, inl source, omega (arith, le, is))

base_at : (reports : Trio (Option Report)) (p : Plan) (r : Place) (s : Report) (n : ℕ)
    (q : Place) (o : Option Report) → r ≡ p.source → Joined reports r s → s.held ≡ Log → s.base ≤ n
    → get reports q ≡ o → IsIn p.storers q → is_p2 q ≡ false → n ≡ base_of o
    → HasBase reports p r s n
base_at reports p r s n q None source j l le e i d is = (
  r,
  s,
  j,
  l,
  inl source,
  omega
      (arith, le, is),
)
base_at reports p r s n q (Some t) source j l le e i d is = base_by
    (is_log t.held) reports p r s n q t source j l le e i d refl is

storers_had : (reports : Trio (Option Report)) (p : Plan) (pair : Pair) (r : Place) (s : Report)
    (n : ℕ) → pair ≡ p.storers → r ≡ p.source → Joined reports r s → s.held ≡ Log → s.base ≤ n
    → n ≡ storers_base pair reports → HasBase reports p r s n
storers_had reports p S01 r s n pair source j l le is =
    ⊎_elim (λ (k : max (base_of (get reports Zero)) (base_of (get reports One))
    ≡ base_of (get reports Zero)). base_at reports p r s n Zero
    (get reports Zero) source j l le refl (subst (λ x. IsIn x Zero) pair tt) refl (is ∙ k))
    (λ (k : max (base_of (get reports Zero)) (base_of (get reports One))
    ≡ base_of (get reports One)). base_at reports p r s n One
    (get reports One) source j l le refl (subst (λ x. IsIn x One) pair tt) refl (is ∙ k))
    (max_is (base_of (get reports Zero)) (base_of (get reports One)))
storers_had reports p S02 r s n pair source j l le is = base_at reports p r s n Zero
    (get reports Zero) source j l le refl (subst (λ x. IsIn x Zero) pair tt) refl is
storers_had reports p S12 r s n pair source j l le is = base_at reports p r s n One
    (get reports One) source j l le refl (subst (λ x. IsIn x One) pair tt) refl is

-- ---- the choice is so

found : (reports : Trio (Option Report)) (v : ℕ) (best : Option (Place × Report))
    → IsFound reports v best → (b : Place × Report) → best ≡ Some b → IsFound reports v (Some b)
found reports v best h b e = subst (λ (x : Option (Place × Report)). IsFound reports v x) e h

planned : (reports : Trio (Option Report)) (pair : Pair) (b : Place × Report)
    → pair_of (get reports Zero) (get reports One) (get reports Two) ≡ Some pair
    → IsFound reports (greatest reports) (Some b)
    → IsChoice reports (plan_of reports pair b) (greatest reports)
planned reports pair b e h =
    let plan = plan_of reports pair b in
    let j = h.source.0 in
    let l = h.source.1 in
    record {
      storers = told reports pair e;
      data_servers = λ t u x y. data_first (get reports Zero) (get reports One)
          (get reports Two) t u pair e x y;
      source = b.1;
      joined = j;
      held = l;
      accepted = h.source.2;
      greatest = greatest_is reports;
      longest = λ q t is held of_view. h.covers q t is held of_view;
      start = refl;
      cp = refl;
      horizon = horizon_is reports;
      horizon_of = horizon_had reports b.0 b.1 j;
      base = λ q t is held counts. ⊎_elim
          (λ (x : q ≡ b.0). let same : Some t ≡ Some b.1 = sym is ∙ ap (get reports) x
          ∙ j in let one : t ≡ b.1 = cc in let k : t.base
          ≡ b.1.base = ap (λ (y : Report). y.base) one in omega (arith, k))
          (λ (x : IsIn pair q × (is_p2 q
          ≡ false)). let k = storer_base reports pair q t is held x.0 x.1 in omega
          (arith, k)) counts;
      base_of = ⊎_elim
          (λ (x : max b.1.base (storers_base pair reports)
          ≡ b.1.base). (b.0, b.1, j, l, inl refl, sym x))
          (λ (x : max b.1.base (storers_base pair reports)
          ≡ storers_base pair reports). storers_had reports plan pair b.0 b.1 (max b.1.base
          (storers_base pair reports)) refl refl j l (omega arith) x)
          (max_is b.1.base (storers_base pair reports));
    }

pub chooses_so : ChoosesSo
chooses_so reports p e = go (pair_of (get reports Zero) (get reports One) (get reports Two))
    (source_of reports (greatest reports)) refl refl e
  where
    go : (pair : Option Pair) (best : Option (Place × Report))
        → pair_of (get reports Zero) (get reports One) (get reports Two) ≡ pair
        → source_of reports (greatest reports) ≡ best
        → choice_of reports pair best ≡ Some p → IsChoice reports p (greatest reports)
    go None best a b e = cc
    go (Some pair) None a b e = cc
    go (Some pair) (Some best) a b e =
        let same : plan_of reports pair best ≡ p = cc in
        subst (λ (x : Plan). IsChoice reports x (greatest reports)) same
        (planned reports pair best a (found reports (greatest reports) (source_of reports
        (greatest reports)) (source_is reports (greatest reports)) best b))

-- ---- no choice

pub few : (reports : Trio (Option Report))
    → pair_of (get reports Zero) (get reports One) (get reports Two) ≡ None → FewJoined reports
few reports = go (get reports Zero) (get reports One) (get reports Two) refl refl refl
  where
    only : (x : Place) → ((q : Place) (t : Report) → Joined reports q t → q ≡ x) → FewJoined reports
    only x h q r t u j k = h q t j ∙ sym (h r u k)

    go : (a b c : Option Report) → get reports Zero ≡ a → get reports One ≡ b
        → get reports Two ≡ c → pair_of a b c ≡ None → FewJoined reports
    go (Some a) (Some b) c ea eb ec e = cc
    go (Some a) None (Some c) ea eb ec e = cc
    go None (Some b) (Some c) ea eb ec e = cc
    go (Some a) None None ea eb ec e = only Zero at
      where
        at : (q : Place) (t : Report) → Joined reports q t → q ≡ Zero
        at Zero t j = refl
        at One t j = cc
        at Two t j = cc
    go None (Some b) None ea eb ec e = only One at
      where
        at : (q : Place) (t : Report) → Joined reports q t → q ≡ One
        at Zero t j = cc
        at One t j = refl
        at Two t j = cc
    go None None c ea eb ec e = only Two at
      where
        at : (q : Place) (t : Report) → Joined reports q t → q ≡ Two
        at Zero t j = cc
        at One t j = cc
        at Two t j = refl
