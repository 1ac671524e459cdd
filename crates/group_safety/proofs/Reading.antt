-- A leader whose grant hasn't run out is the last one that opened a view.
use Rattle.std.proofs.Common.{◌≡◌, ℕ, zero, suc, ◌⊎◌, inl, inr, refl, ◌<◌, ◌≤◌, true, false, sym, ◌∙◌, subst, arith, le_trans, lt_of_lt_of_le, ⊎_elim, lt_irrefl, le_of_eq}
use Rattle.std.proofs.lemmas.Bool.{cases_Bool}
use Rattle.group_safety.specs.Facts.{Ok}
use Rattle.group_rules.specs.Places.{IsIn, Place, leader, partner}
use Rattle.group_rules.specs.State.{Group, Open}
use Rattle.group_rules.specs.Step.{near, Near}
use Rattle.group_safety.specs.Words.{IsActive}
use Rattle.group_safety.proofs.Common.{share, either}

zero_or_some : (n : ℕ) → (n ≡ 0) ⊎ (0 < n)
zero_or_some zero = inl refl
zero_or_some (suc n) = inr (omega arith)

pub exclusive : {E : Type 0} (g : Group E) → Ok g → Near g.clock → (q : Place) → (g.server q).mode ≡ Open → g.clock q < (g.server q).grant → (W : ℕ) → (g.server q).accepted < W → (g.page W).formed ≡ true → (g.page W).opened ≡ false
exclusive g ok near q o grant W lt f = ⊎_elim
    (λ (e : (g.page W).opened ≡ true).
    let s = g.server q in
    let m = (ok.server q).modes in
    let leads = m.leads o in
    let active : IsActive s.mode = subst (λ z. IsActive z) (sym o) tt in
    let x = share (g.page s.accepted).plan.storers (g.page W).plan.storers in
    let high = (ok.server x.0).views.promises W f x.2 in
    absurd (⊎_elim
    (λ (l : x.0 ≡ leader (g.page s.accepted).plan.storers).
    let mine : W ≤ s.promised = subst (λ (y : Place). W ≤ (g.server y).promised) (l ∙ sym leads.0) high in
    lt_irrefl s.accepted (lt_of_lt_of_le lt (le_trans mine (le_of_eq (m.active active).1))))
    (λ (l : x.0 ≡ partner (g.page s.accepted).plan.storers).
    let a : (g.page s.accepted).until ≤ (g.page W).plan.horizon = (ok.pair s.accepted W lt (ok.server q).views.formed f).promise (subst (λ (y : Place). IsIn (g.page W).plan.storers y) l x.2) in
    let c = near (leader (g.page W).plan.storers) q in
    let d = leads.2 in
    ⊎_elim (λ (none : (g.page W).plan.horizon ≡ 0). omega arith) (λ (some : 0 < (g.page W).plan.horizon). let b = ok.late W f e some in omega arith) (zero_or_some (g.page W).plan.horizon))
    (either (g.page s.accepted).plan.storers x.0 x.1)))
    (λ e. e)
    (cases_Bool (g.page W).opened)
