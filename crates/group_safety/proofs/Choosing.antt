-- What `choose` gives is a choice.
use Rattle.file_tree.specs.Book.{Entry}
use Rattle.std.proofs.Common.{◌≡◌, ℕ, ◌<◌, ◌≤◌, ◌&&◌, Option, None, Some, max, refl, ap, subst, arith, ⊎_elim, zero-le, nat_lt, ◌==◌}
use Rattle.std.proofs.lemmas.Bool.{cases_lt}
use Rattle.group_safety.proofs.May.{MayChoose}
use Rattle.group_rules.specs.Choose.{accepted_of, base_of, better, choice_of, choose, greatest, horizon_of, longer, pair_of, plan_of, source_of, storers_base}
use Rattle.group_rules.specs.Limits.{is_log}
use Rattle.group_rules.specs.Places.{IsIn, Zero, One, Two, Pair, Place, S01, S02, S12, Trio, get}
use Rattle.group_rules.specs.State.{Collects, Group, Log, Plan, Report, Server}
use Rattle.group_safety.specs.Words.{Under}
use Rattle.group_rules.proofs.Tests.{by_if, left, right, is_eq'}
use Rattle.group_safety.proofs.Quiet.{log_is}
use Rattle.group_safety.proofs.Bases.{lbs_of}
use Rattle.group_safety.proofs.Moving.{Good, its}

-- both storers joined
storers_told : (reports : Trio (Option Report)) (a b c : Option Report) → get reports Zero ≡ a → get reports One ≡ b → get reports Two ≡ c → (p : Pair) → pair_of a b c ≡ Some p → (x : Place) → IsIn p x → (t : Report) × (get reports x ≡ Some t)
storers_told reports (Some a) (Some b) c ea eb ec p e x i = first x (let y : p ≡ S01 = cc in subst (λ (z : Pair). IsIn z x) y i)
  where
    first : (x : Place) → IsIn S01 x → (t : Report) × (get reports x ≡ Some t)
    first Zero i = (a, ea)
    first One i = (b, eb)
    first Two i = absurd i
storers_told reports (Some a) None (Some c) ea eb ec p e x i = first x (let y : p ≡ S02 = cc in subst (λ (z : Pair). IsIn z x) y i)
  where
    first : (x : Place) → IsIn S02 x → (t : Report) × (get reports x ≡ Some t)
    first Zero i = (a, ea)
    first One i = absurd i
    first Two i = (c, ec)
storers_told reports None (Some b) (Some c) ea eb ec p e x i = first x (let y : p ≡ S12 = cc in subst (λ (z : Pair). IsIn z x) y i)
  where
    first : (x : Place) → IsIn S12 x → (t : Report) × (get reports x ≡ Some t)
    first Zero i = absurd i
    first One i = (b, eb)
    first Two i = (c, ec)
storers_told reports (Some a) None None ea eb ec p e x i = cc
storers_told reports None (Some b) None ea eb ec p e x i = cc
storers_told reports None None c ea eb ec p e x i = cc

-- a source so far
IsBest : Trio (Option Report) → ℕ → Option (Place × Report) → Type 0
IsBest reports v best = (b : Place × Report) → best ≡ Some b → (get reports b.0 ≡ Some b.1) × (b.1.held ≡ Log) × (b.1.accepted ≡ v)

longer_best : (reports : Trio (Option Report)) (v : ℕ) (q : Place) (t : Report) (best : Option (Place × Report)) → get reports q ≡ Some t → t.held ≡ Log → t.accepted ≡ v → IsBest reports v best → IsBest reports v (longer q t best)
unfolding IsBest
longer_best reports v q t None e l a h b x = let y : (q, t) ≡ b = cc in subst (λ (b : Place × Report). (get reports b.0 ≡ Some b.1) × (b.1.held ≡ Log) × (b.1.accepted ≡ v)) y (e, l, a)
longer_best reports v q t (Some c) e l a h d w = by_if (λ (z : Option (Place × Report)). (b : Place × Report) → z ≡ Some b → (get reports b.0 ≡ Some b.1) × (b.1.held ≡ Log) × (b.1.accepted ≡ v)) (nat_lt c.1.top t.top) (Some (q, t)) (Some c)
    (λ _ b x. let y : (q, t) ≡ b = cc in subst (λ (b : Place × Report). (get reports b.0 ≡ Some b.1) × (b.1.held ≡ Log) × (b.1.accepted ≡ v)) y (e, l, a))
    (λ _. h) d w

better_best : (reports : Trio (Option Report)) (v : ℕ) (best : Option (Place × Report)) (q : Place) (o : Option Report) → get reports q ≡ o → IsBest reports v best → IsBest reports v (better v best q o)
better_best reports v best q None e h = h
better_best reports v best q (Some t) e h = by_if (λ (z : Option (Place × Report)). IsBest reports v z) (is_log t.held && (t.accepted == v)) (longer q t best) best
    (λ x. longer_best reports v q t best e (log_is t.held (left (is_log t.held) (t.accepted == v) x)) (is_eq' t.accepted v (right (is_log t.held) (t.accepted == v) x)) h)
    (λ _. h)

none_best : (reports : Trio (Option Report)) (v : ℕ) → IsBest reports v None
unfolding IsBest
none_best reports v b e = cc

source_best : (reports : Trio (Option Report)) (v : ℕ) → IsBest reports v (source_of reports v)
source_best reports v = better_best reports v _ Two (get reports Two) refl (better_best reports v _ One (get reports One) refl (better_best reports v None Zero (get reports Zero) refl (none_best reports v)))

open_best : (reports : Trio (Option Report)) (v : ℕ) (best : Option (Place × Report)) → IsBest reports v best → (b : Place × Report) → best ≡ Some b → (get reports b.0 ≡ Some b.1) × (b.1.held ≡ Log) × (b.1.accepted ≡ v)
unfolding IsBest
open_best reports v best h = h

choice_is : (reports : Trio (Option Report)) (pair : Option Pair) (best : Option (Place × Report)) (plan : Plan) → choice_of reports pair best ≡ Some plan → (p : Pair) × (b : Place × Report) × (pair ≡ Some p) × (best ≡ Some b) × (plan_of reports p b ≡ plan)
choice_is reports None best plan e = cc
choice_is reports (Some p) None plan e = cc
choice_is reports (Some p) (Some b) plan e = (p, b, refl, refl, (let y : plan_of reports p b ≡ plan = cc in y))

-- some join has a CP of at least n
Low : Trio (Option Report) → ℕ → Type 0
Low reports n = (x : Place) × (t : Report) × (get reports x ≡ Some t) × (n ≤ t.cp)

low_max : (reports : Trio (Option Report)) (a b : ℕ) → Low reports a → Low reports b → Low reports (max a b)
unfolding Low
low_max reports a b x y = ⊎_elim
    (λ (l : a < b). (y.0, y.1, y.2, (let i = y.3 in omega arith)))
    (λ (l : b ≤ a). (x.0, x.1, x.2, (let i = x.3 in omega arith)))
    (cases_lt a b)

low_made : (reports : Trio (Option Report)) (x : Place) (t : Report) (n : ℕ) → get reports x ≡ Some t → n ≤ t.cp → Low reports n
unfolding Low
low_made reports x t n e l = (x, t, e, l)

low_base : (reports : Trio (Option Report)) → ((x : Place) (t : Report) → get reports x ≡ Some t → t.base ≤ t.cp) → Low reports 0 → (x : Place) (o : Option Report) → get reports x ≡ o → Low reports (base_of o)
low_base reports h z x None e = z
low_base reports h z x (Some t) e = by_if (λ (n : ℕ). Low reports n) (is_log t.held) t.base 0 (λ _. low_made reports x t t.base e (h x t e)) (λ _. z)

low_storers : (reports : Trio (Option Report)) → ((x : Place) (t : Report) → get reports x ≡ Some t → t.base ≤ t.cp) → Low reports 0 → (p : Pair) → Low reports (storers_base p reports)
low_storers reports h z S01 = low_max reports _ _ (low_base reports h z Zero (get reports Zero) refl) (low_base reports h z One (get reports One) refl)
low_storers reports h z S02 = low_base reports h z Zero (get reports Zero) refl
low_storers reports h z S12 = low_base reports h z One (get reports One) refl

low_open : (reports : Trio (Option Report)) (n : ℕ) → Low reports n → (x : Place) × (t : Report) × (get reports x ≡ Some t) × (n ≤ t.cp)
unfolding Low
low_open reports n h = h

greatest_is : (reports : Trio (Option Report)) (q : Place) (t : Report) → get reports q ≡ Some t → t.accepted ≤ greatest reports
greatest_is reports Zero t e = let x : accepted_of (get reports Zero) ≡ t.accepted = ap accepted_of e in omega arith
greatest_is reports One t e = let x : accepted_of (get reports One) ≡ t.accepted = ap accepted_of e in omega arith
greatest_is reports Two t e = let x : accepted_of (get reports Two) ≡ t.accepted = ap accepted_of e in omega arith

horizon_is : (reports : Trio (Option Report)) (q : Place) (t : Report) → get reports q ≡ Some t → t.horizon ≤ max (horizon_of (get reports Zero)) (max (horizon_of (get reports One)) (horizon_of (get reports Two)))
horizon_is reports Zero t e = let x : horizon_of (get reports Zero) ≡ t.horizon = ap horizon_of e in omega arith
horizon_is reports One t e = let x : horizon_of (get reports One) ≡ t.horizon = ap horizon_of e in omega arith
horizon_is reports Two t e = let x : horizon_of (get reports Two) ≡ t.horizon = ap horizon_of e in omega arith

pub choose_may : (g : Group Entry) (q : Place) (s : Server Entry) → Good g q s → (reports : Trio (Option Report)) → s.duty ≡ Collects reports → (plan : Plan) → choose reports ≡ Some plan → MayChoose g s reports plan (greatest reports)
choose_may g q s h reports e plan c =
    let known = (its h).duty reports e in
    let is = choice_is reports _ _ plan c in
    let p = is.0 in
    let b = is.1 in
    let best = open_best reports (greatest reports) _ (source_best reports (greatest reports)) b is.3 in
    let base_cp : (x : Place) (t : Report) → get reports x ≡ Some t → t.base ≤ t.cp = λ x t e. (h.ok.join _ (known.joined x t e)).base_cp in
    let zero' : Low reports 0 = low_made reports b.0 b.1 0 best.0 zero-le in
    let low = low_open reports _ (low_max reports _ _ (low_made reports b.0 b.1 b.1.base best.0 (base_cp b.0 b.1 best.0)) (low_storers reports base_cp zero' p)) in
    subst (λ (plan : Plan). MayChoose g s reports plan (greatest reports)) is.4 (record {
      collects = e;
      storers = λ x i. storers_told reports _ _ _ refl refl refl p is.2 x i;
      greatest = greatest_is reports;
      source = b.1;
      source_told = best.0;
      source_held = best.1;
      source_from = best.2;
      source_top = refl;
      source_cp = refl;
      horizon = horizon_is reports;
      lowest = low.0;
      base_from = low.1;
      base_told = low.2;
      base = low.3;
    })

-- the base of a choice is on both disks
pub choose_low : (g : Group Entry) (q : Place) (s : Server Entry) → Good g q s → (reports : Trio (Option Report)) → s.duty ≡ Collects reports → (plan : Plan) → choose reports ≡ Some plan → Under (lbs_of g.server) plan.base
choose_low g q s h reports e plan c =
    let known = (its h).duty reports e in
    let is = choice_is reports _ _ plan c in
    let b = is.1 in
    let best = open_best reports (greatest reports) _ (source_best reports (greatest reports)) b is.3 in
    let each : (x : Place) (t : Report) → get reports x ≡ Some t → t.held ≡ Log → Under (lbs_of g.server) t.base = λ x t e l. h.bases.join _ (known.joined x t e) l in
    subst (λ (plan : Plan). Under (lbs_of g.server) plan.base) is.4 (under_max (lbs_of g.server) _ _ (each b.0 b.1 best.0 best.1) (storers is.0 each))
  where
    under_max : (lbs : Place → ℕ) (m n : ℕ) → Under lbs m → Under lbs n → Under lbs (max m n)
    under_max lbs m n x y = let a = x.0 in let b = x.1 in let c = y.0 in let d = y.1 in (omega arith, omega arith)

    one : (x : Place) (o : Option Report) → get reports x ≡ o → ((x : Place) (t : Report) → get reports x ≡ Some t → t.held ≡ Log → Under (lbs_of g.server) t.base) → Under (lbs_of g.server) (base_of o)
    one x None e each = (zero-le, zero-le)
    one x (Some t) e each = by_if (λ (n : ℕ). Under (lbs_of g.server) n) (is_log t.held) t.base 0 (λ l. each x t e (log_is t.held l)) (λ _. (zero-le, zero-le))

    storers : (p : Pair) → ((x : Place) (t : Report) → get reports x ≡ Some t → t.held ≡ Log → Under (lbs_of g.server) t.base) → Under (lbs_of g.server) (storers_base p reports)
    storers S01 each = under_max (lbs_of g.server) _ _ (one Zero (get reports Zero) refl each) (one One (get reports One) refl each)
    storers S02 each = one Zero (get reports Zero) refl each
    storers S12 each = one One (get reports One) refl each
