-- Opening, and what the partner does with an Event or a Beat, are raises.
use Rattle.std.proofs.Common.{◌≡◌, ℕ, ◌+◌, ◌-◌, ◌<◌, ◌≤◌, true, false, List, length, drop, max, min, refl, sym, ◌∙◌, subst, inl, inr, arith, le_trans, lt_of_lt_of_le, ⊎_elim, le_of_eq, le_refl, zero-le}
use Rattle.std.proofs.lemmas.Bool.{cases_lt}
use Rattle.std.proofs.lemmas.List.{length-drop}
use Rattle.group_safety.proofs.May.{MayHeed, MayOpen, heeded, opened}
use Rattle.group_safety.specs.Facts.{Ok}
use Rattle.group_rules.specs.Places.{Place, partner}
use Rattle.group_rules.specs.State.{Group}
use Rattle.group_safety.specs.Words.{IsActive, Sure}
use Rattle.group_safety.proofs.Common.{sure_less, either, none_heard}
use Rattle.group_safety.proofs.Lists.{part_drop}
use Rattle.group_safety.proofs.Raising.{raise_kept, leader_not_partner}

pub open_kept : {E : Type 0} (g : Group E) → Ok g → (q : Place) (lb : ℕ) → MayOpen g q (g.server q) lb → Ok (opened g q lb)
open_kept g ok q lb m =
    let w = (g.server q).accepted in
    let h = ok.server q in
    let active : IsActive (g.server q).mode = subst (λ z. IsActive z) (sym m.waits) tt in
    let act = h.modes.active active in
    let f : (g.page w).formed ≡ true = h.views.formed in
    let log = h.logs.log act.0 in
    let closed : (g.page w).opened ≡ false = h.modes.waits m.waits m.leads in
    let none : (g.page w).held_twice ≡ 0 = (ok.page w f).kept_later closed in
    let pin : (g.page w).partner_in ≡ true = subst (λ (n : ℕ). (g.page n).partner_in ≡ true) act.1 (h.modes.heard (partner (g.server q).plan.storers) lb m.formed).2 in
    raise_kept g ok q _ _ _ (record {
      was_active = active;
      promised = act.1;
      accepted = refl;
      saved = act.2;
      duty = refl;
      role = refl;
      plan = refl;
      longest = refl;
      heard = none_heard;
      leader_in = ⊎_elim (λ y. y.1) (λ y. absurd (leader_not_partner _ (sym m.leads ∙ y.0))) act.3;
      partner_in = pin;
      held_twice = subst (λ (n : ℕ). n ≤ (g.page w).plan.start) (sym none) zero-le;
      until = le_refl _;
      within = (ok.page w f).start_within;
      later = λ v l f'. h.views.ahead_of_partner w v l f f' m.leads pin (le_of_eq act.1);
      others = λ x n ne y. y.from_start;
      promises = inr refl;
      covered = λ e. absurd (leader_not_partner _ (sym m.leads ∙ e));
      horizon = λ u. (u, le_refl _);
      held = act.0;
      served = h.logs.served act.0;
      start = le_refl _;
      log = log;
      order = h.logs.order act.0;
      top = log.holds.from_start;
      late = λ _. subst (λ (x : Place). (g.page w).plan.horizon + 50 ≤ g.clock x) m.leads m.late;
      active = inl (refl, m.leads, zero-le);
    })

pub heed_kept : {E : Type 0} (g : Group E) → Ok g → (q : Place) (items : List E) (cp base : ℕ) → MayHeed g q (g.server q) items cp base → Ok (heeded g q items cp base)
heed_kept g ok q items cp base m =
    let s = g.server q in
    let w = s.accepted in
    let h = ok.server q in
    let act = h.modes.active m.active in
    let f : (g.page w).formed ≡ true = h.views.formed in
    let log = h.logs.log act.0 in
    let order = h.logs.order act.0 in
    let page = ok.page w f in
    let lin = page.opened_leader m.opened in
    let drops : length (drop (base - s.base) items) ≡ length items - (base - s.base) = length-drop (base - s.base) items in
    let base_cp' = log.base_cp in
    let cp_top' = log.cp_top in
    let longer' = m.longer in
    let base_lb' = m.base_lb in
    let within' = m.within in
    let held_twice' = page.kept_within in
    let k = max (g.page w).held_twice (s.base + length items) in
    let k_le : k ≤ length (g.page w).list = omega arith in
    let new_cp = max s.cp (min cp (s.base + length items)) in
    let sure : Sure g.page g.committed w new_cp = ⊎_elim
    (λ (lt : s.cp < cp). sure_less g.page g.committed w (max s.cp cp) new_cp (omega arith) (subst (λ (n : ℕ). Sure g.page g.committed w n) (let e : cp ≡ max s.cp cp = omega arith in e) m.cp_sure))
    (λ (le : cp ≤ s.cp). subst (λ (n : ℕ). Sure g.page g.committed w n) (let e : s.cp ≡ new_cp = omega arith in e) log.sure)
    (cases_lt s.cp cp) in
    raise_kept g ok q _ _ _ (record {
      was_active = m.active;
      promised = act.1;
      accepted = refl;
      saved = act.2;
      duty = refl;
      role = refl;
      plan = refl;
      longest = refl;
      heard = none_heard;
      leader_in = lin;
      partner_in = page.opened_partner m.opened;
      held_twice = omega arith;
      until = omega arith;
      within = k_le;
      later = λ v l f'. let o = h.views.ahead_of_leader w v l f f' m.follows lin (le_of_eq act.1) in (le_trans k_le o.0, λ i j. o.1 i (lt_of_lt_of_le j k_le));
      others = λ x n ne y. ⊎_elim
          (λ e. subst (λ (i : ℕ). k ≤ i) (sym (y.all e)) k_le)
          (λ e. absurd (ne (e ∙ sym m.follows)))
          (either _ x y.storer);
      promises = inl m.follows;
      covered = λ _. (λ up. let o = ((h.promise w f m.follows).0 m.up) in omega arith, let o = (h.promise w f m.follows).1 in let d = m.lasts in omega arith);
      horizon = λ u. (u, omega arith);
      held = act.0;
      served = h.logs.served act.0;
      start = (let y = page.start_kept m.opened in omega arith);
      log = record {
        base_cp = omega arith;
        cp_top = omega arith;
        holds = record {
          storer = log.holds.storer;
          from_start = let a = log.holds.from_start in omega arith;
          held_twice = let a = log.holds.held_twice in omega arith;
          within = omega arith;
          all = λ e. absurd (leader_not_partner _ (sym e ∙ m.follows));
        };
        part = part_drop s.base (max s.base base) (base - s.base) items (g.page w).list (omega arith) m.part;
        sure = sure;
      };
      order = (omega arith, order.1, omega arith);
      top = let a = log.holds.held_twice in omega arith;
      late = ok.late w f m.opened;
      active = inr (refl, m.follows, m.opened);
    })
