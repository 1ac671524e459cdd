-- An open leader that appends an entry keeps the facts.
use Rattle.std.proofs.Common.{◌≡◌, ℕ, zero, suc, ◌+◌, ◌<◌, ◌≤◌, true, List, [], ◌∷◌, ◌++◌, length, Some, slice_get, refl, sym, ap, ◌∙◌, subst, arith, le_trans, lt_of_lt_of_le, true≢false, lt_irrefl, le_of_eq, le_refl, length-append}
use Rattle.group_safety.proofs.May.{MayAppend, appended}
use Rattle.group_safety.specs.Facts.{Ok, PageOk, PairOk, ServerOk, ViewsOk}
use Rattle.group_safety.specs.Laws.{Grows, PageGrows}
use Rattle.group_rules.specs.Places.{Place, leader, partner, put}
use Rattle.group_rules.specs.State.{Group, Page}
use Rattle.group_safety.specs.Words.{Holds, IsActive, Part}
use Rattle.group_safety.proofs.Common.{each_other}
use Rattle.group_safety.proofs.Lists.{part_append, get_front, get_back}
use Rattle.group_safety.proofs.Accepting.{none_above}
use Rattle.group_safety.proofs.Active.{active_put}
use Rattle.group_safety.proofs.Grow.{part_grow, sure_grow, body_grow, each_map, server_put, ViewsAt, join_put, page_grow, Puts, puts, by_page, by_pages, grows_put}

pub append_kept : {E : Type 0} (g : Group E) → Ok g → (q : Place) (e : E) → MayAppend g q (g.server q) → Ok (appended g q e)
append_kept {E = E} g ok q e m =
    let s = g.server q in
    let w = s.accepted in
    let p : Page E = g.page w in
    let p' : Page E = record p { list = p.list ++ e ∷ [] } in
    let h = ok.server q in
    let act = h.modes.active (subst (λ z. IsActive z) (sym m.open') tt) in
    let leads = h.modes.leads m.open' in
    let f : p.formed ≡ true = h.views.formed in
    let log = h.logs.log act.0 in
    let page = ok.page w f in
    let promised_w : s.promised ≡ w = act.1 in
    let len : length p'.list ≡ length p.list + 1 = length-append p.list (e ∷ []) in
    let longer : length p.list ≤ length p'.list = omega arith in
    let front : (k : ℕ) → k < length p.list → slice_get p'.list k ≡ slice_get p.list k = λ k l. get_front p.list (e ∷ []) k l in
    let grows_page : PageGrows p p' = record {
      formed = f;
      plan = refl;
      from = refl;
      longer = longer;
      agree = λ k l. sym (front k l);
      held_twice = le_refl _;
      until = le_refl _;
      leader_in = λ h. h;
      partner_in = λ h. h;
      opened = λ h. h;
    } in
    let grows : Grows g.page (put g.page w p') g.committed g.committed g.joins g.joins = record { each = λ v f. grows_put g.page w p' v (λ _. grows_page) f; longer = le_refl _; agree = λ k l. refl; more = λ j i. i } in
    let at' : Puts w g.page p' (put g.page w p') = puts w g.page p' in
    let within : (v : ℕ) → (g.page v).formed ≡ true → (g.page v).plan.start ≤ length (g.page v).list = λ v f. (ok.page v f).start_within in
    let start : p.plan.start ≤ length p.list = within w f in
    let holds_other : (x : Place) (n : ℕ) → (x ≡ q → ⊥) → Holds p x n → Holds p' x n = λ x n ne h. record { storer = h.storer; from_start = h.from_start; held_twice = h.held_twice; within = le_trans h.within longer; all = λ e. absurd (ne (e ∙ sym leads.0)) } in
    let views : (x : Place) (a : ℕ) → ViewsOk g.page g.joins x (g.server x).promised a → ViewsAt w g.page p' x (g.server x).promised a = λ x a h. record {
      promises = h.promises w;
      into = h.into w;
      own = h.own w;
      above = λ V. (
        λ lt f f' e l stays. let o = h.ahead_of_leader V w lt f f' e l stays in (o.0, λ k j. o.1 k j ∙ sym (front k (lt_of_lt_of_le j (le_trans o.0 start)))),
        λ lt f f' e l stays. let o = h.ahead_of_partner V w lt f f' e l stays in (o.0, λ k j. o.1 k j ∙ sym (front k (lt_of_lt_of_le j (le_trans o.0 start)))),
      );
      below = λ v. (
        λ lt f f' e l stays. absurd (none_above g ok w v lt f' q x leads.0 e (le_of_eq promised_w) stays),
        λ lt f f' e l stays. let o = h.ahead_of_partner w v lt f f' e l stays in (o.0, λ k j. front k (lt_of_lt_of_le j start) ∙ o.1 k j),
      );
    } in
    let size : length (s.items ++ e ∷ []) ≡ length s.items + 1 = length-append s.items (e ∷ []) in
    let all : s.base + length s.items ≡ length p.list = log.holds.all leads.0 in
    record {
      server = each_other (λ x s. ServerOk (put g.page w p') g.joins g.committed (g.clock x) x s) g.server q _
          (λ x ne. server_put w grows at' x (g.server x) within (record {
            views = views x _ (ok.server x).views;
            unformed = λ reports e y. absurd (true≢false (sym f ∙ ap (λ (k : ℕ). (g.page k).formed) (sym y) ∙ ((ok.server x).duty reports e).unformed));
            holds = λ n _ y. holds_other x n ne y;
            promise = (ok.server x).promise w;
            waits = λ e a l. absurd (ne (l ∙ sym leads.0));
            fresh = λ j i _. i;
          }) (ok.server x))
          (active_put w grows at' q _ promised_w refl (subst (λ (n : ℕ). ViewsOk g.page g.joins q n w) promised_w h.views) (record {
            formed = f;
            views = subst (λ (n : ℕ). ViewsAt w g.page p' q n w) promised_w (views q w h.views);
            held = act.0;
            saved = act.2;
            base_cp = log.base_cp;
            cp_top = let o = log.cp_top in omega arith;
            holds = record { storer = log.holds.storer; from_start = let o = log.holds.from_start in omega arith; held_twice = let o = log.holds.held_twice in omega arith; within = omega arith; all = λ _. omega arith };
            part = part_append s.base s.items (e ∷ []) p'.list (part_grow p p' grows_page s.base s.items log.holds.within log.part)
                (one e (s.base + length s.items) p'.list (let i : s.base + length s.items + 0 ≡ length p.list + 0 = omega arith in ap (slice_get p'.list) i ∙ get_back p.list (e ∷ []) 0));
            sure = sure_grow grows w s.cp f log.sure;
            order = h.logs.order act.0;
            into = act.3;
            inside = act.4;
            served = h.logs.served act.0;
            plan = h.modes.plan (subst (λ z. IsActive z) (sym m.open') tt);
            chose = λ v plan e. subst (λ (n : ℕ). (v ≤ n) × ((g.page v).formed ≡ true) × ((g.page v).plan ≡ plan)) promised_w (h.chose v plan e);
            active = subst (λ z. IsActive z) (sym m.open') tt;
            leads = λ _. leads;
            follows = λ x. cc (m.open', x);
            waits = λ x. cc (m.open', x);
            heard = λ y lb x. let z = h.modes.heard y lb x in subst (λ (n : ℕ). (y ≡ partner (g.page n).plan.storers) × ((g.page n).partner_in ≡ true)) promised_w (z.1, z.2);
            duty = λ reports x. true≢false (sym f ∙ ap (λ (k : ℕ). (g.page k).formed) (sym promised_w) ∙ (h.duty reports x).unformed);
            here = h.promise w;
            promise = h.promise;
          }));
      page = λ v f'. by_page w at' (λ v r. r.formed ≡ true → PageOk (put g.page w p') g.joins g.committed v r) (λ _.
          let o = page_grow grows w page in
          record {
            formed = o.formed;
            origin = o.origin;
            earlier = o.earlier;
            start_within = le_trans o.start_within longer;
            start_origin = o.start_origin;
            begins = λ k l. o.begins k l ∙ sym (front k (lt_of_lt_of_le l start));
            base_sure = o.base_sure;
            cp_sure = o.cp_sure;
            kept_within = le_trans o.kept_within longer;
            kept_later = o.kept_later;
            start_kept = o.start_kept;
            opened_leader = o.opened_leader;
            opened_partner = o.opened_partner;
            fresh = λ x. absurd (true≢false (sym leads.1 ∙ x));
            storers_joined = o.storers_joined;
            source = o.source;
          })
          v (λ f'. page_grow grows v (ok.page v f')) f';
      pair = λ V v lt. by_pages w at' (λ V v a b. V < v → a.formed ≡ true → b.formed ≡ true → PairOk V v a b)
          (λ l. absurd (lt_irrefl w l))
          (λ V l f f'. let o = ok.pair V w l f f' in record { kept_start = o.kept_start; agree = λ k j. o.agree k j ∙ sym (front k (lt_of_lt_of_le j (le_trans o.kept_start start))); promise = o.promise })
          (λ v l f f'. let o = ok.pair w v l f f' in record { kept_start = o.kept_start; agree = λ k j. front k (lt_of_lt_of_le j page.kept_within) ∙ o.agree k j; promise = o.promise }) V v (ok.pair V v) lt;
      join = λ j i. join_put w grows at' j (record {
        latest = (ok.join j i).latest w;
        holds = λ l e y. holds_other j.from _ (λ same. lt_irrefl w (lt_of_lt_of_le (subst (λ (n : ℕ). n < j.view) e (ok.join j i).earlier) (subst (λ (n : ℕ). j.view ≤ n) promised_w (h.views.joined j i same)))) y;
        promise = (ok.join j i).promise w;
      }) (ok.join j i);
      packet = each_map _ _ (λ x. body_grow grows within x.from x.to x.body) g.packets ok.packet;
      first_view = (grows.each 0 ok.first_view).formed;
      late = λ v. by_page w at' (λ v r. r.formed ≡ true → r.opened ≡ true → 0 < r.plan.horizon → r.plan.horizon + 50 ≤ g.clock (leader r.plan.storers)) (ok.late w) v (ok.late v);
      committed = (ok.committed.0, (grows.each _ ok.committed.1).formed, sure_grow grows _ _ ok.committed.1 ok.committed.2);
    }
  where
    one : (e : E) (n : ℕ) (xs : List E) → slice_get xs (n + 0) ≡ Some e → Part n (e ∷ []) xs
    one e n xs h zero l = sym h
    one e n xs h (suc k) l = absurd (omega arith)
