-- A storer that opens its view, or holds more of it: what opening and acknowledging share.
use Rattle.std.proofs.Common.{Option, Some, ◌≡◌, ℕ, ◌+◌, ◌<◌, ◌≤◌, ◌⊎◌, true, false, length, None, refl, sym, ap, ◌∙◌, subst, le_trans, lt_of_lt_of_le, true≢false, ⊎_elim, lt_irrefl, le_refl}
use Rattle.group_safety.proofs.May.{raised}
use Rattle.group_safety.specs.Facts.{LogOk, Ok, PageOk, PairOk, ServerOk, ViewsOk}
use Rattle.group_safety.specs.Laws.{Grows, PageGrows}
use Rattle.group_rules.specs.Moves.{raised_page}
use Rattle.group_rules.specs.Places.{IsIn, Pair, Place, S01, S02, S12, get, leader, partner, put}
use Rattle.group_rules.specs.State.{Group, Live, Log, Open, Page, Server, longest_of}
use Rattle.group_safety.specs.Words.{Agree, Holds, IsActive}
use Rattle.group_safety.proofs.Common.{each_other}
use Rattle.group_safety.proofs.Active.{active_put}
use Rattle.group_safety.proofs.Grow.{sure_grow, body_grow, each_map, server_put, ViewsAt, join_put, page_grow, Puts, puts, by_page, by_pages, grows_put}

pub leader_not_partner : (a : Pair) → leader a ≡ partner a → ⊥
leader_not_partner S01 e = cc
leader_not_partner S02 e = cc
leader_not_partner S12 e = cc

-- What is asked of q, its new state s and the numbers k and u
pub record MayRaise {E : Type 0} (g : Group E) (q : Place) (s : Server E) (k u : ℕ) : Type 0 where
  pub was_active : IsActive (g.server q).mode
  pub promised : s.promised ≡ (g.server q).accepted
  pub accepted : s.accepted ≡ (g.server q).accepted
  pub saved : s.saved ≡ None
  pub duty : s.duty ≡ (g.server q).duty
  pub role : s.role ≡ (g.server q).role
  pub plan : s.plan ≡ (g.server q).plan
  pub longest : s.longest ≡ (g.server q).longest
  pub heard : (x : Place) (lb : ℕ) → get s.heard x ≡ Some lb → ⊥
  pub leader_in : (g.page (g.server q).accepted).leader_in ≡ true
  pub partner_in : (g.page (g.server q).accepted).partner_in ≡ true
  pub held_twice : (g.page (g.server q).accepted).held_twice ≤ k
  pub until : (g.page (g.server q).accepted).until ≤ u
  pub within : k ≤ length (g.page (g.server q).accepted).list
  pub later : (v : ℕ) → (g.server q).accepted < v → (g.page v).formed ≡ true → (k ≤ (g.page v).plan.start) × Agree k (g.page (g.server q).accepted).list (g.page v).list
  pub others : (x : Place) (n : ℕ) → (x ≡ q → ⊥) → Holds (g.page (g.server q).accepted) x n → k ≤ n
  pub promises : (q ≡ partner (g.page (g.server q).accepted).plan.storers) ⊎ (u ≡ (g.page (g.server q).accepted).until)
  pub covered : q ≡ partner (g.page (g.server q).accepted).plan.storers → (s.up ≡ true → u ≤ s.horizon) × (u ≤ g.clock q + longest_of s.longest)
  pub horizon : s.up ≡ true → (g.server q).up ≡ true × ((g.server q).horizon ≤ s.horizon)
  pub held : s.held ≡ Log
  pub served : s.served ≤ (g.page (g.server q).accepted).plan.start
  pub start : (g.page (g.server q).accepted).plan.start ≤ k
  pub log : LogOk g.page g.committed q (g.server q).accepted s.base s.cp s.items
  pub order : (s.base ≤ s.lb) × (s.lb ≤ s.ap) × (s.ap ≤ s.cp)
  pub top : k ≤ s.base + length s.items
  pub late : 0 < (g.page (g.server q).accepted).plan.horizon → (g.page (g.server q).accepted).plan.horizon + 50 ≤ g.clock (leader (g.page (g.server q).accepted).plan.storers)
  pub active : (s.mode ≡ Open) × (q ≡ leader (g.page (g.server q).accepted).plan.storers) × (s.grant ≤ u) ⊎ (s.mode ≡ Live) × (q ≡ partner (g.page (g.server q).accepted).plan.storers) × ((g.page (g.server q).accepted).opened ≡ true)

pub raise_kept : {E : Type 0} (g : Group E) → Ok g → (q : Place) (s : Server E) (k u : ℕ) → MayRaise g q s k u → Ok (raised g q s k u)
raise_kept {E = E} g ok q s k u m =
    let w = (g.server q).accepted in
    let p : Page E = g.page w in
    let p' : Page E = raised_page p k u in
    let h = ok.server q in
    let act = h.modes.active m.was_active in
    let f : p.formed ≡ true = h.views.formed in
    let promised_w : (g.server q).promised ≡ w = act.1 in
    let grows_page : PageGrows p p' = record {
      formed = f;
      plan = refl;
      from = refl;
      longer = le_refl _;
      agree = λ k l. refl;
      held_twice = m.held_twice;
      until = m.until;
      leader_in = λ h. h;
      partner_in = λ h. h;
      opened = λ _. refl;
    } in
    let grows : Grows g.page (put g.page w p') g.committed g.committed g.joins g.joins = record { each = λ v f. grows_put g.page w p' v (λ _. grows_page) f; longer = le_refl _; agree = λ k l. refl; more = λ j i. i } in
    let at' : Puts w g.page p' (put g.page w p') = puts w g.page p' in
    let within : (v : ℕ) → (g.page v).formed ≡ true → (g.page v).plan.start ≤ length (g.page v).list = λ v f. (ok.page v f).start_within in
    let holds_other : (x : Place) (n : ℕ) → (x ≡ q → ⊥) → Holds p x n → Holds p' x n = λ x n ne h. record { storer = h.storer; from_start = h.from_start; held_twice = m.others x n ne h; within = h.within; all = h.all } in
    let views : (x : Place) (promised accepted : ℕ) → ViewsOk g.page g.joins x promised accepted → ViewsAt w g.page p' x promised accepted = λ x a b h. record {
      promises = h.promises w;
      into = h.into w;
      own = h.own w;
      above = λ V. (h.ahead_of_leader V w, h.ahead_of_partner V w);
      below = λ v. (h.ahead_of_leader w v, h.ahead_of_partner w v);
    } in
    let own_views : ViewsOk g.page g.joins q w w = subst (λ (n : ℕ). ViewsOk g.page g.joins q n w) promised_w h.views in
    record {
      server = each_other (λ x s. ServerOk (put g.page w p') g.joins g.committed (g.clock x) x s) g.server q s
          (λ x ne. server_put w grows at' x (g.server x) within (record {
            views = views x _ _ (ok.server x).views;
            unformed = λ reports e y. absurd (true≢false (sym f ∙ ap (λ (k : ℕ). (g.page k).formed) (sym y) ∙ ((ok.server x).duty reports e).unformed));
            holds = λ n _ y. holds_other x n ne y;
            promise = λ _ e. ⊎_elim (λ y. absurd (ne (e ∙ sym y))) (λ y. rw y ((ok.server x).promise w f e)) m.promises;
            waits = λ e a l. ⊎_elim
                (λ y. absurd (ne (l ∙ sym y.1)))
                (λ y. absurd (true≢false (sym y.2 ∙ subst (λ (n : ℕ). x ≡ leader (g.page n).plan.storers → (g.page n).opened ≡ false) a ((ok.server x).modes.waits e) l)))
                m.active;
            fresh = λ j i _. i;
          }) (ok.server x))
          (active_put w grows at' q s m.promised m.accepted own_views (record {
            formed = f;
            views = views q w w own_views;
            held = m.held;
            saved = m.saved;
            base_cp = m.log.base_cp;
            cp_top = m.log.cp_top;
            holds = record { storer = m.log.holds.storer; from_start = m.log.holds.from_start; held_twice = m.top; within = m.log.holds.within; all = m.log.holds.all };
            part = m.log.part;
            sure = sure_grow grows w s.cp f m.log.sure;
            order = m.order;
            into = act.3;
            served = m.served;
            inside = λ e. act.4 (sym m.role ∙ e);
            plan = m.plan ∙ h.modes.plan m.was_active;
            chose = λ v plan e. subst (λ (n : ℕ). (v ≤ n) × ((g.page v).formed ≡ true) × ((g.page v).plan ≡ plan)) promised_w (h.chose v plan (sym m.duty ∙ e));
            active = ⊎_elim (λ y. subst (λ z. IsActive z) (sym y.0) tt) (λ y. subst (λ z. IsActive z) (sym y.0) tt) m.active;
            leads = λ e. ⊎_elim (λ y. (y.1, refl, y.2)) (λ y. cc) m.active;
            follows = λ e. ⊎_elim (λ y. cc) (λ y. (y.1, refl)) m.active;
            waits = λ e. ⊎_elim (λ y. cc) (λ y. cc) m.active;
            heard = λ x lb e. absurd (m.heard x lb e);
            duty = λ reports e. true≢false (sym f ∙ ap (λ (k : ℕ). (g.page k).formed) (sym promised_w) ∙ (h.duty reports (sym m.duty ∙ e)).unformed);
            here = λ _ e. m.covered e;
            promise = λ V f' e. (λ up. le_trans ((h.promise V f' e).0 (m.horizon up).0) (m.horizon up).1, subst (λ (l : Option ℕ). (g.page V).until ≤ g.clock q + longest_of l) (sym m.longest) (h.promise V f' e).1);
          }));
      page = λ v f'. by_page w at' (λ v r. r.formed ≡ true → PageOk (put g.page w p') g.joins g.committed v r) (λ _.
          let o = page_grow grows w (ok.page w f) in
          record {
            formed = o.formed;
            origin = o.origin;
            earlier = o.earlier;
            start_within = o.start_within;
            start_origin = o.start_origin;
            begins = o.begins;
            base_sure = o.base_sure;
            cp_sure = o.cp_sure;
            kept_within = m.within;
            kept_later = λ e. absurd (true≢false e);
            start_kept = λ _. m.start;
            opened_leader = λ _. m.leader_in;
            opened_partner = λ _. m.partner_in;
            fresh = λ e. absurd (true≢false e);
            storers_joined = o.storers_joined;
            source = o.source;
          })
          v (λ f'. page_grow grows v (ok.page v f')) f';
      pair = λ V v lt. by_pages w at' (λ V v a b. V < v → a.formed ≡ true → b.formed ≡ true → PairOk V v a b)
          (λ l. absurd (lt_irrefl w l)) (λ V l f f'. let o = ok.pair V w l f f' in record { kept_start = o.kept_start; agree = o.agree; promise = o.promise })
          (λ v l _ f'. let o = m.later v l f' in record {
            kept_start = o.0;
            agree = o.1;
            promise = λ i. ⊎_elim
                (λ y. absurd (lt_irrefl w (lt_of_lt_of_le l (subst (λ (n : ℕ). v ≤ n) promised_w (h.views.promises v f' (subst (λ (z : Place). IsIn (g.page v).plan.storers z) (sym y) i))))))
                (λ y. rw y ((ok.pair w v l f f').promise i)) m.promises;
          }) V v (ok.pair V v) lt;
      join = λ j i. join_put w grows at' j (record {
        latest = (ok.join j i).latest w;
        holds = λ l e y. holds_other j.from _ (λ same. lt_irrefl w (lt_of_lt_of_le (subst (λ (n : ℕ). n < j.view) e (ok.join j i).earlier) (subst (λ (n : ℕ). j.view ≤ n) promised_w (h.views.joined j i same)))) y;
        promise = λ _ l e. ⊎_elim
            (λ y. absurd (lt_irrefl w (lt_of_lt_of_le l (subst (λ (n : ℕ). j.view ≤ n) promised_w (h.views.joined j i (e ∙ sym y))))))
            (λ y. rw y ((ok.join j i).promise w f l e)) m.promises;
      }) (ok.join j i);
      packet = each_map _ _ (λ x. body_grow grows within x.from x.to x.body) g.packets ok.packet;
      first_view = (grows.each 0 ok.first_view).formed;
      late = λ v. by_page w at' (λ v r. r.formed ≡ true → r.opened ≡ true → 0 < r.plan.horizon → r.plan.horizon + 50 ≤ g.clock (leader r.plan.storers)) (λ _ _. m.late) v (ok.late v);
      committed = (ok.committed.0, (grows.each _ ok.committed.1).formed, sure_grow grows _ _ ok.committed.1 ok.committed.2);
    }
