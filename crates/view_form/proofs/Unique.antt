-- There is at most one choice, and where there is none two servers or a held one are missing.
use Rattle.std.proofs.Common.{◌≡◌, ℕ, ◌<◌, ◌≤◌, ◌⊎◌, Option, None, Some, max, refl, ap, sym, ◌∙◌, subst, inl, inr, arith, ⊎_elim}
use Rattle.std.proofs.lemmas.Bool.{cases_lt}
use Rattle.group_rules.specs.Choose.{accepted_of, choice_of, choose, greatest, pair_of, source_of}
use Rattle.group_rules.specs.Places.{IsIn, Zero, One, Two, Pair, Place, S01, S02, S12, Trio, get, number}
use Rattle.group_rules.specs.State.{Plan, Report}
use Rattle.view_form.specs.Laws.{ChoosesNone, Counts, FewJoined, IsChoice, IsNotBefore, Joined, NoneHeld, NoneSo, SomeSo}
use Rattle.view_form.proofs.Choices.{chooses_so, few, max_is}
use Rattle.view_form.proofs.Sources.{IsFound, greatest_is, source_is}

-- ---- no choice

HasAccepted : Trio (Option Report) → ℕ → Type 0
HasAccepted reports n = (q : Place) × (t : Report) × Joined reports q t × (n < t.accepted)

accepted_at : (reports : Trio (Option Report)) (n g : ℕ) (q : Place) (o : Option Report)
    → get reports q ≡ o → n < g → g ≡ accepted_of o → HasAccepted reports n
unfolding HasAccepted
accepted_at reports n g q None e less is = absurd (omega (arith, less, is))
accepted_at reports n g q (Some t) e less is = (q, t, e, omega (arith, less, is))

greatest_had : (reports : Trio (Option Report)) (n : ℕ) → n < greatest reports
    → HasAccepted reports n
greatest_had reports n less =
    let a = accepted_of (get reports Zero) in
    let b = accepted_of (get reports One) in
    let c = accepted_of (get reports Two) in
    ⊎_elim (λ (i : max a (max b c)
    ≡ a). accepted_at reports n (greatest reports) Zero (get reports Zero) refl less i)
    (λ (i : max a (max b c) ≡ max b c). ⊎_elim (λ (k : max b c
    ≡ b). accepted_at reports n (greatest reports) One (get reports One) refl less (i ∙ k))
    (λ (k : max b c ≡ c). accepted_at reports n (greatest reports) Two
    (get reports Two) refl less (i ∙ k)) (max_is b c)) (max_is a (max b c))

had : (reports : Trio (Option Report)) (n : ℕ) → HasAccepted reports n
    → (r : Place) × (u : Report) × Joined reports r u × (n < u.accepted)
unfolding HasAccepted
had reports n h = h

none_held : (reports : Trio (Option Report)) → IsFound reports (greatest reports) None
    → NoneHeld reports
none_held reports h q t j l = had reports t.accepted (⊎_elim
    (λ (less : t.accepted < greatest reports). greatest_had reports t.accepted less)
    (λ (le : greatest reports ≤ t.accepted). let most = greatest_is reports q t j in absurd
    (h.covers q t j l (omega (arith, le, most))))
    (cases_lt t.accepted (greatest reports)))

pub chooses_none : ChoosesNone
chooses_none reports e = go (pair_of (get reports Zero) (get reports One) (get reports Two))
    (source_of reports (greatest reports)) refl refl e
  where
    go : (pair : Option Pair) (best : Option (Place × Report))
        → pair_of (get reports Zero) (get reports One) (get reports Two) ≡ pair
        → source_of reports (greatest reports) ≡ best
        → choice_of reports pair best ≡ None → FewJoined reports ⊎ NoneHeld reports
    go None best a b e = inl (few reports a)
    go (Some pair) None a b e = inr (none_held reports (subst (λ (x : Option
        (Place × Report)). IsFound reports (greatest reports) x) b (source_is reports
        (greatest reports))))
    go (Some pair) (Some best) a b e = cc

-- two storers are two servers
both_joined : (reports : Trio (Option Report)) (pair : Pair) → ((q : Place) → IsIn pair q
    → (t : Report) × Joined reports q t) → FewJoined reports → ⊥
both_joined reports S01 h few = let a = h Zero tt in let b = h One tt in let same = few Zero One
    a.0 b.0 a.1 b.1 in cc
both_joined reports S02 h few = let a = h Zero tt in let b = h Two tt in let same = few Zero Two
    a.0 b.0 a.1 b.1 in cc
both_joined reports S12 h few = let a = h One tt in let b = h Two tt in let same = few One Two a.0
    b.0 a.1 b.1 in cc

clash : (reports : Trio (Option Report)) (p : Plan) (from : ℕ) → IsChoice reports p from
    → FewJoined reports ⊎ NoneHeld reports → ⊥
clash reports p from h (inl few) = both_joined reports p.storers h.storers few
clash reports p from h (inr none) =
    let more = none p.source h.source h.joined h.held in
    let most = h.greatest more.0 more.1 more.2 in
    let above = more.3 in
    let is = h.accepted in
    omega (arith, most, above, is)

pub none_so : NoneSo
none_so reports missing = go (choose reports) refl
  where
    go : (o : Option Plan) → choose reports ≡ o → choose reports ≡ None
    go None e = e
    go (Some p) e = absurd (clash reports p (greatest reports) (chooses_so reports p e) missing)

-- ---- at most one

same_place : (q r : Place) → number q ≤ number r → number r ≤ number q → q ≡ r
same_place Zero Zero a b = refl
same_place Zero One a b = absurd (omega (arith, b))
same_place Zero Two a b = absurd (omega (arith, b))
same_place One Zero a b = absurd (omega (arith, a))
same_place One One a b = refl
same_place One Two a b = absurd (omega (arith, b))
same_place Two Zero a b = absurd (omega (arith, a))
same_place Two One a b = absurd (omega (arith, a))
same_place Two Two a b = refl

-- the pair is (0,1) where both joined, and else the only one whose two joined
same_pair : (reports : Trio (Option Report)) (p r : Pair) → ((q : Place) → IsIn p q
    → (t : Report) × Joined reports q t) → ((q : Place) → IsIn r q
    → (t : Report) × Joined reports q t)
    → ((a b : Report) → Joined reports Zero a → Joined reports One b → p ≡ S01)
    → ((a b : Report) → Joined reports Zero a → Joined reports One b → r ≡ S01) → p ≡ r
same_pair reports S01 r h k x y = let a = h Zero tt in let b = h One tt in sym (y a.0 b.0 a.1 b.1)
same_pair reports S02 S01 h k x y = let a = k Zero tt in let b = k One tt in x a.0 b.0 a.1 b.1
same_pair reports S02 S02 h k x y = refl
same_pair reports S02 S12 h k x y = let a = h Zero tt in let b = k One tt in x a.0 b.0 a.1 b.1
    ∙ sym (y a.0 b.0 a.1 b.1)
same_pair reports S12 S01 h k x y = let a = k Zero tt in let b = k One tt in x a.0 b.0 a.1 b.1
same_pair reports S12 S02 h k x y = let a = k Zero tt in let b = h One tt in x a.0 b.0 a.1 b.1
    ∙ sym (y a.0 b.0 a.1 b.1)
same_pair reports S12 S12 h k x y = refl

made : Pair → Place → ℕ → ℕ → ℕ → ℕ → Plan
made storers source base cp start horizon = record {
  storers = storers;
  source = source;
  base =
      base;
  cp = cp;
  start = start;
  horizon = horizon;
}

same_plan : (p r : Plan) → p.storers ≡ r.storers → p.source ≡ r.source → p.base ≡ r.base
    → p.cp ≡ r.cp → p.start ≡ r.start → p.horizon ≡ r.horizon → p ≡ r
unfolding made
same_plan p r a b c d e f =
    ap (λ x. made x p.source p.base p.cp p.start p.horizon) a
    ∙ ap (λ x. made r.storers x p.base p.cp p.start p.horizon) b
    ∙ ap (λ x. made r.storers r.source x p.cp p.start p.horizon) c
    ∙ ap (λ x. made r.storers r.source r.base x p.start p.horizon) d
    ∙ ap (λ x. made r.storers r.source r.base r.cp x p.horizon) e
    ∙ ap (λ x. made r.storers r.source r.base r.cp r.start x) f

counts_too : (p r : Plan) (q : Place) → p.storers ≡ r.storers → p.source ≡ r.source → Counts p q
    → Counts r q
counts_too p r q pairs sources (inl x) = inl (x ∙ sources)
counts_too p r q pairs sources (inr x) = inr (subst (λ (y : Pair). IsIn y q) pairs x.0, x.1)

nearer : (a b : Place) (s t : Report) → IsNotBefore a s b t → IsNotBefore b t a s
    → number a ≤ number b
nearer a b s t (inl x) (inl y) = absurd (omega (arith, x, y))
nearer a b s t (inl x) (inr y) = let k = y.0 in absurd (omega (arith, x, k))
nearer a b s t (inr x) y = x.1

unique : (reports : Trio (Option Report)) (p r : Plan) (from start : ℕ)
    → IsChoice reports p from → IsChoice reports r start → p ≡ r
unique reports p r from start h k =
    let one = k.greatest p.source h.source h.joined in
    let two = h.greatest r.source k.source k.joined in
    let ha = h.accepted in
    let ka = k.accepted in
    let here : h.source.accepted ≡ start = omega (arith, one, two, ha, ka) in
    let there : k.source.accepted ≡ from = omega (arith, one, two, ha, ka) in
    let mine = h.longest r.source k.source k.joined k.held there in
    let yours = k.longest p.source h.source h.joined h.held here in
    let sources = same_place p.source r.source
    (nearer p.source r.source h.source k.source mine yours)
    (nearer r.source p.source k.source h.source yours mine) in
    let pairs = same_pair reports p.storers r.storers h.storers k.storers h.data_servers
    k.data_servers in
    let told : Some h.source ≡ Some k.source = sym h.joined ∙ ap (get reports) sources ∙ k.joined in
    let reported : h.source ≡ k.source = cc in
    let tops = ap (λ (t : Report). t.top) reported in
    let cps = ap (λ (t : Report). t.cp) reported in
    let hh = h.horizon_of in
    let kh = k.horizon_of in
    let below = k.horizon hh.0 hh.1 hh.2 in
    let above = h.horizon kh.0 kh.1 kh.2 in
    let hb = h.base_of in
    let kb = k.base_of in
    let under = k.base hb.0 hb.1 hb.2 hb.3 (counts_too p r hb.0 pairs sources hb.4) in
    let over = h.base kb.0 kb.1 kb.2 kb.3 (counts_too r p kb.0 (sym pairs) (sym sources) kb.4) in
    let eh = hh.3 in
    let ek = kh.3 in
    let fh = hb.5 in
    let fk = kb.5 in
    same_plan p r pairs sources (omega (arith, under, over, fh, fk)) (h.cp ∙ cps
    ∙ sym k.cp) (h.start ∙ tops ∙ sym k.start) (omega (arith, below, above, eh, ek))

pub some_so : SomeSo
some_so reports p from h = go (choose reports) refl
  where
    go : (o : Option Plan) → choose reports ≡ o → choose reports ≡ Some p
    go None e = absurd (clash reports p from h (chooses_none reports e))
    go (Some r) e = e ∙ ap Some (unique reports r p (greatest reports) from
        (chooses_so reports r e) h)
