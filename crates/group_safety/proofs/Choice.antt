-- The choice of a view keeps the facts.
use Rattle.std.proofs.Common.{◌≡◌, ℕ, ◌+◌, ◌<◌, ◌≤◌, true, false, List, length, Option, Some, slice_get, take, refl, sym, ap, ◌∙◌, subst, inl, inr, arith, le_trans, lt_of_lt_of_le, lt_of_le_of_lt, true≢false, ⊎_elim, eq-or-lt_of_le, lt_irrefl, le_of_lt, le_of_eq, le_refl}
use Rattle.std.proofs.lemmas.List.{length-take-le}
use Rattle.std.proofs.lemmas.Bool.{cases_Bool}
use Rattle.group_safety.proofs.May.{MayChoose, chosen}
use Rattle.group_safety.specs.Facts.{Ok, PageOk, PairOk, ServerOk}
use Rattle.group_safety.specs.Laws.{Grows}
use Rattle.group_rules.specs.Moves.{new_page}
use Rattle.group_rules.specs.Places.{IsIn, Place, Trio, coordinator, get, leader, partner, put}
use Rattle.group_rules.specs.State.{Chose, Collects, Group, NoDuty, Page, Plan, Report, Server}
use Rattle.group_safety.specs.Words.{Agree, AheadOfLeader, AheadOfPartner, Holds, In, Into, Sure}
use Rattle.group_safety.proofs.Lists.{get_take}
use Rattle.group_safety.proofs.Common.{each_other, share, either, sure_up, kept_up, sure_less}
use Rattle.group_safety.proofs.Grow.{Puts, puts, by_page, by_pages, grows_put, page_grow, sure_grow, body_grow, each_map, join_put, server_put, ServerAt, with_call}

-- what the proof of a choice speaks of
record Chosen {E : Type 0} (g : Group E) (w : ℕ) (plan : Plan) (from : ℕ) (list : List E) : Type 0 where
  ok : Ok g
  fresh : (g.page w).formed ≡ false
  origin : (g.page from).formed ≡ true
  earlier : from < w
  length_is : length list ≡ plan.start
  within : plan.start ≤ length (g.page from).list
  begins : Agree plan.start (g.page from).list list
  -- a storer's join tells a view that is at least each view that the storer accepted
  storers : (q : Place) → IsIn plan.storers q → (w ≤ (g.server q).promised) × ((V : ℕ) → (g.page V).formed ≡ true → V < w → Into (g.page V) q → V ≤ from)
  storers_joined : (q : Place) → IsIn plan.storers q → (t : Report) × In g.joins (record { from = q; view = w; report = t })
  source : (t : Report) × In g.joins (record { from = plan.source; view = w; report = t }) × (t.accepted ≡ from) × (t.top ≡ plan.start)
  source_promised : w ≤ (g.server plan.source).promised
  source_holds : Holds (g.page from) plan.source plan.start
  until : (q : Place) → IsIn plan.storers q → (V : ℕ) → (g.page V).formed ≡ true → V < w → q ≡ partner (g.page V).plan.storers → (g.page V).until ≤ plan.horizon
  base_sure : Sure g.page g.committed from plan.base
  cp_sure : Sure g.page g.committed from plan.cp

-- each view that both storers accepted is not above `from`
settled_below : {E : Type 0} (g : Group E) (w : ℕ) (plan : Plan) (from : ℕ) (list : List E) → Chosen g w plan from list → (V : ℕ) → V < w → (g.page V).formed ≡ true
    → (g.page V).leader_in ≡ true → (g.page V).partner_in ≡ true → V ≤ from
settled_below g w plan from list h V lt f l p =
    let s = share (g.page V).plan.storers plan.storers in
    ⊎_elim
    (λ (e : s.0 ≡ leader (g.page V).plan.storers). (h.storers s.0 s.2).1 V f lt (inl (e, l)))
    (λ (e : s.0 ≡ partner (g.page V).plan.storers). (h.storers s.0 s.2).1 V f lt (inr (e, p)))
    (either (g.page V).plan.storers s.0 s.1)

-- what is in V up to n and in `from` too, is in the new view
through : {E : Type 0} (g : Group E) (w : ℕ) (plan : Plan) (from : ℕ) (list : List E) → Chosen g w plan from list → (V n : ℕ) → n ≤ plan.start → Agree n (g.page V).list (g.page from).list → Agree n (g.page V).list list
through g w plan from list h V n le a = λ k l. a k l ∙ h.begins k (lt_of_lt_of_le l le)

pair_new : {E : Type 0} (g : Group E) (w : ℕ) (plan : Plan) (from : ℕ) (list : List E) → Chosen g w plan from list → (V : ℕ) → V < w → (g.page V).formed ≡ true → PairOk V w (g.page V) (new_page plan from list)
pair_new g w plan from list h V lt f = ⊎_elim
    (λ (o : (g.page V).opened ≡ true).
    let below = settled_below g w plan from list h V lt f ((h.ok.page V f).opened_leader o) ((h.ok.page V f).opened_partner o) in
    let k : (g.page V).held_twice ≤ plan.start = ⊎_elim
    (λ (e : V ≡ from). subst (λ (n : ℕ). (g.page n).held_twice ≤ plan.start) (sym e) h.source_holds.held_twice)
    (λ (l : V < from). le_trans (h.ok.pair V from l f h.origin).kept_start h.source_holds.from_start)
    (eq-or-lt_of_le below) in
    record { kept_start = k; agree = through g w plan from list h V _ k (kept_up g h.ok V from below f h.origin).1; promise = λ i. h.until _ i V f lt refl })
    (λ (o : (g.page V).opened ≡ false).
    let z = (h.ok.page V f).kept_later o in
    record { kept_start = omega arith; agree = λ k l. absurd (omega arith); promise = λ i. h.until _ i V f lt refl })
    (cases_Bool (g.page V).opened)

ahead_leader_new : {E : Type 0} (g : Group E) (w : ℕ) (plan : Plan) (from : ℕ) (list : List E) → Chosen g w plan from list → (q : Place) (V : ℕ) → AheadOfLeader q (g.server q).promised V w (g.page V) (new_page plan from list)
ahead_leader_new g w plan from list h q V lt f _ qp lin stays =
    let s = share (g.page V).plan.storers plan.storers in
    -- the partner joined no view above V, so the shared storer is the leader
    let not_partner : (x : Place) → w ≤ (g.server x).promised → x ≡ partner (g.page V).plan.storers → ⊥ = λ x a e. lt_irrefl V (lt_of_lt_of_le lt (le_trans a (subst (λ (y : Place). (g.server y).promised ≤ V) (qp ∙ sym e) stays))) in
    let leads : s.0 ≡ leader (g.page V).plan.storers = ⊎_elim (λ e. e) (λ e. absurd (not_partner s.0 (h.storers s.0 s.2).0 e)) (either (g.page V).plan.storers s.0 s.1) in
    let below : V ≤ from = (h.storers s.0 s.2).1 V f lt (inl (leads, lin)) in
    ⊎_elim
    (λ (e : V ≡ from).
    let source_leads : plan.source ≡ leader (g.page from).plan.storers = ⊎_elim (λ e. e) (λ (x : plan.source ≡ partner (g.page from).plan.storers). absurd (not_partner plan.source h.source_promised (subst (λ (n : ℕ). plan.source ≡ partner (g.page n).plan.storers) (sym e) x)))
    (either (g.page from).plan.storers plan.source h.source_holds.storer) in
    let all = h.source_holds.all source_leads in
    let all' : plan.start ≡ length (g.page V).list = subst (λ (n : ℕ). plan.start ≡ length (g.page n).list) (sym e) all in
    (omega arith, λ k l. subst (λ (n : ℕ). slice_get (g.page n).list k ≡ slice_get list k) (sym e) (h.begins k (omega arith))))
    (λ (l : V < from).
    let old = (h.ok.server q).views.ahead_of_leader V from l f h.origin qp lin stays in
    let le : length (g.page V).list ≤ plan.start = le_trans old.0 h.source_holds.from_start in
    (le, through g w plan from list h V _ le old.1))
    (eq-or-lt_of_le below)

ahead_partner_new : {E : Type 0} (g : Group E) (w : ℕ) (plan : Plan) (from : ℕ) (list : List E) → Chosen g w plan from list → (q : Place) (V : ℕ) → AheadOfPartner q (g.server q).promised V w (g.page V) (new_page plan from list)
ahead_partner_new g w plan from list h q V lt f _ ql pin stays =
    let s = share (g.page V).plan.storers plan.storers in
    let follows : s.0 ≡ partner (g.page V).plan.storers = ⊎_elim
    (λ (e : s.0 ≡ leader (g.page V).plan.storers). absurd (lt_irrefl V (lt_of_lt_of_le lt (le_trans (h.storers s.0 s.2).0 (subst (λ (y : Place). (g.server y).promised ≤ V) (ql ∙ sym e) stays)))))
    (λ e. e) (either (g.page V).plan.storers s.0 s.1) in
    let below : V ≤ from = (h.storers s.0 s.2).1 V f lt (inr (follows, pin)) in
    ⊎_elim
    (λ (e : V ≡ from).
    let le : (g.page V).plan.start ≤ plan.start = subst (λ (n : ℕ). (g.page n).plan.start ≤ plan.start) (sym e) h.source_holds.from_start in
    (le, λ k l. subst (λ (n : ℕ). slice_get (g.page n).list k ≡ slice_get list k) (sym e) (h.begins k (lt_of_lt_of_le l le))))
    (λ (l : V < from).
    let old = (h.ok.server q).views.ahead_of_partner V from l f h.origin ql pin stays in
    let le : (g.page V).plan.start ≤ plan.start = le_trans old.0 h.source_holds.from_start in
    (le, through g w plan from list h V _ le old.1))
    (eq-or-lt_of_le below)

-- what a coordinator may choose is such a choice
may_choose : {E : Type 0} (g : Group E) → Ok g → (c : Place) (reports : Trio (Option Report)) (plan : Plan) (from : ℕ) → MayChoose g (g.server c) reports plan from → Chosen g (g.server c).promised plan from (take plan.start (g.page from).list)
may_choose g ok c reports plan from m =
    let w = (g.server c).promised in
    let known = (ok.server c).duty reports m.collects in
    let joined : (x : Place) (t : Report) → get reports x ≡ Some t → In g.joins (record { from = x; view = w; report = t }) = known.joined in
    let source_join = ok.join _ (joined plan.source m.source m.source_told) in
    let origin : (g.page from).formed ≡ true = subst (λ (n : ℕ). (g.page n).formed ≡ true) m.source_from source_join.formed in
    let holds : Holds (g.page from) plan.source plan.start = subst (λ (n : ℕ). Holds (g.page from) plan.source n) m.source_top (subst (λ (n : ℕ). Holds (g.page n) plan.source m.source.top) m.source_from (source_join.holds m.source_held)) in
    let base_join = ok.join _ (joined m.lowest m.base_from m.base_told) in
    let cp_sure : Sure g.page g.committed from plan.cp = subst (λ (n : ℕ). Sure g.page g.committed from n) m.source_cp (sure_up g ok _ from _ (m.greatest _ _ m.source_told) source_join.formed origin source_join.sure) in
    let base_cp : Sure g.page g.committed from m.base_from.cp = sure_up g ok _ from _ (m.greatest _ _ m.base_told) base_join.formed origin base_join.sure in
    record {
      ok = ok;
      fresh = known.unformed;
      origin = origin;
      earlier = subst (λ (n : ℕ). n < w) m.source_from source_join.earlier;
      length_is = length-take-le plan.start (g.page from).list holds.within;
      within = holds.within;
      begins = λ k l. sym (get_take plan.start (g.page from).list k l);
      storers = λ q i.
          let t = m.storers q i in
          let j = joined q t.0 t.1 in
          ((ok.server q).views.joined _ j refl, λ V f lt into. le_trans ((ok.join _ j).latest V f lt into) (m.greatest q t.0 t.1));
      storers_joined = λ q i. let t = m.storers q i in (t.0, joined q t.0 t.1);
      source = (m.source, joined plan.source m.source m.source_told, m.source_from, m.source_top);
      source_promised = (ok.server plan.source).views.joined _ (joined plan.source m.source m.source_told) refl;
      source_holds = holds;
      until = λ q i V f lt e.
          let t = m.storers q i in
          le_trans ((ok.join _ (joined q t.0 t.1)).promise V f lt e) (m.horizon q t.0 t.1);
      base_sure = sure_less g.page g.committed from m.base_from.cp plan.base m.base base_cp;
      cp_sure = cp_sure;
    }

-- what the new page asks of a server whose numbers stay
server_at : {E : Type 0} (g : Group E) (c : Place) (plan : Plan) (from : ℕ) (list : List E) → coordinator (g.server c).promised ≡ c → Chosen g (g.server c).promised plan from list
    → (q : Place) (s : Server E) → s.promised ≡ (g.server q).promised → s.accepted ≡ (g.server q).accepted
    → ((reports : Trio (Option Report)) → s.duty ≡ Collects reports → s.promised ≡ (g.server c).promised → ⊥)
    → ServerAt (g.server c).promised g.page (new_page plan from list) g.joins g.joins (g.clock q) q s
server_at g c plan from list own h q s sp sa quiet =
    let w = (g.server c).promised in
    let unformed : (v : ℕ) → v ≡ w → (g.page v).formed ≡ true → ⊥ = λ v e f. true≢false (sym f ∙ ap (λ (n : ℕ). (g.page n).formed) e ∙ h.fresh) in
    record {
      views = record {
        promises = λ _ i. rw sp ((h.storers q i).0);
        into = λ _ i. ⊎_elim (λ x. absurd (true≢false (sym x.1))) (λ x. absurd (true≢false (sym x.1))) i;
        own = λ _ e. rw sp (let same : c ≡ q = sym own ∙ e in subst (λ (x : Place). w ≤ (g.server x).promised) same (omega arith));
        above = λ V. rw sp ((ahead_leader_new g w plan from list h q V, ahead_partner_new g w plan from list h q V));
        below = λ v. (λ _ _ _ _ x. absurd (true≢false (sym x)), λ _ _ _ _ x. absurd (true≢false (sym x)));
      };
      unformed = λ reports e f. absurd (quiet reports e f);
      holds = λ n e x. absurd (unformed s.accepted e (rw sa ((h.ok.server q).views.formed)));
      promise = λ _ _. (λ _. omega arith, omega arith);
      waits = λ _ _ _. refl;
      fresh = λ j i _. i;
    }

-- what is sure where the new view starts from is within its start
sure_start : {E : Type 0} (g : Group E) (w : ℕ) (plan : Plan) (from : ℕ) (list : List E) → Chosen g w plan from list → (c : ℕ) → Sure g.page g.committed from c → c ≤ plan.start
sure_start g w plan from list h c s = ⊎_elim
    (λ (e : s.twice ≡ from). le_trans s.held_twice (subst (λ (n : ℕ). (g.page n).held_twice ≤ plan.start) (sym e) h.source_holds.held_twice))
    (λ (l : s.twice < from). le_trans s.held_twice (le_trans (h.ok.pair s.twice from l s.formed h.origin).kept_start h.source_holds.from_start))
    (eq-or-lt_of_le s.not_above)

sure_new : {E : Type 0} (g : Group E) (w : ℕ) (plan : Plan) (from : ℕ) (list : List E) → Chosen g w plan from list → (page' : ℕ → Page E) → Grows g.page page' g.committed g.committed g.joins g.joins → Puts w g.page (new_page plan from list) page'
    → (c : ℕ) → Sure g.page g.committed from c → Sure page' g.committed w c
sure_new g w plan from list h page' grows at' c s =
    let le = sure_start g w plan from list h c s in
    record {
      in_book = s.in_book;
      same = λ k l. ap (λ (p : Page _). slice_get p.list k) at'.here ∙ sym (h.begins k (lt_of_lt_of_le l le)) ∙ s.same k l;
      within = subst (λ (p : Page _). c ≤ length p.list) (sym at'.here) (subst (λ (n : ℕ). c ≤ n) (sym h.length_is) le);
      twice = s.twice;
      formed = (grows.each _ s.formed).formed;
      not_above = le_of_lt (lt_of_le_of_lt s.not_above h.earlier);
      held_twice = le_trans s.held_twice (grows.each _ s.formed).held_twice;
    }

page_new : {E : Type 0} (g : Group E) (w : ℕ) (plan : Plan) (from : ℕ) (list : List E) → Chosen g w plan from list → (page' : ℕ → Page E) → Grows g.page page' g.committed g.committed g.joins g.joins → Puts w g.page (new_page plan from list) page'
    → PageOk page' g.joins g.committed w (new_page plan from list)
page_new g w plan from list h page' grows at' =
    let o = grows.each from h.origin in
    record {
      formed = refl;
      origin = o.formed;
      earlier = λ _. h.earlier;
      start_within = le_of_eq (sym h.length_is);
      start_origin = le_trans h.within o.longer;
      begins = λ k l. sym (o.agree k (lt_of_lt_of_le l h.within)) ∙ h.begins k l;
      base_sure = sure_new g w plan from list h page' grows at' _ h.base_sure;
      cp_sure = sure_new g w plan from list h page' grows at' _ h.cp_sure;
      kept_within = omega arith;
      kept_later = λ _. refl;
      start_kept = λ e. absurd (true≢false (sym e));
      opened_leader = λ e. absurd (true≢false (sym e));
      opened_partner = λ e. absurd (true≢false (sym e));
      fresh = λ _. h.length_is;
      storers_joined = λ _. h.storers_joined;
      source = λ _. h.source;
    }

pub choice_kept : {E : Type 0} (g : Group E) → Ok g → (c : Place) (reports : Trio (Option Report)) (plan : Plan) (from : ℕ) → MayChoose g (g.server c) reports plan from → Ok (chosen g c plan from)
choice_kept {E = E} g ok c reports plan from m =
    let w = (g.server c).promised in
    let list = take plan.start (g.page from).list in
    let p' : Page E = new_page plan from list in
    let h = may_choose g ok c reports plan from m in
    let known = (ok.server c).duty reports m.collects in
    let puts' : Puts w g.page p' (put g.page w p') = puts w g.page p' in
    let within : (v : ℕ) → (g.page v).formed ≡ true → (g.page v).plan.start ≤ length (g.page v).list = λ v f. (ok.page v f).start_within in
    let no_page : (v : ℕ) → v ≡ w → (g.page v).formed ≡ true → ⊥ = λ v e f. true≢false (sym f ∙ ap (λ (n : ℕ). (g.page n).formed) e ∙ h.fresh) in
    let grows : Grows g.page (put g.page w p') g.committed g.committed g.joins g.joins = record {
      each = λ v f. grows_put g.page w p' v (λ fw. absurd (no_page w refl fw)) f;
      longer = omega arith;
      agree = λ k l. refl;
      more = λ j i. i;
    } in
    record {
      server = each_other (λ q s. ServerOk (put g.page w p') g.joins g.committed (g.clock q) q s) g.server c (record (g.server c) { duty = Chose (g.server c).promised plan })
          (λ q ne. server_put w grows puts' q (g.server q) within (server_at g c plan from list known.own h q (g.server q) refl refl
          (λ t e f. ne (sym ((ok.server q).duty t e).own ∙ ap coordinator f ∙ known.own))) (ok.server q))
          (with_call c (record (g.server c) { duty = NoDuty }) (Chose w plan)
          (server_put w grows puts' c (record (g.server c) { duty = NoDuty }) within (server_at g c plan from list known.own h c _ refl refl (λ t e f. cc))
          (with_call c (g.server c) NoDuty (ok.server c) (λ t e. cc) (λ v p e. cc)))
          (λ t e. cc)
          (λ v p e. let x : (w ≡ v) × (plan ≡ p) = ((cc), (cc)) in subst (λ (n : ℕ). (n ≤ w) × ((put g.page w p' n).formed ≡ true) × ((put g.page w p' n).plan ≡ p)) x.0
          (le_refl w, ap (λ (r : Page E). r.formed) puts'.here, ap (λ (r : Page E). r.plan) puts'.here ∙ x.1)));
      page = λ v f. by_page w puts' (λ v p. p.formed ≡ true → PageOk (put g.page w p') g.joins g.committed v p) (λ _. page_new g w plan from list h (put g.page w p') grows puts') v (λ f'. page_grow grows v (ok.page v f')) f;
      pair = λ V v lt. by_pages w puts' (λ V v p r. V < v → p.formed ≡ true → r.formed ≡ true → PairOk V v p r)
          (λ l. absurd (lt_irrefl w l)) (λ V l f _. pair_new g w plan from list h V l f) (λ v l _ f. record { kept_start = omega arith; agree = λ k x. absurd (omega arith); promise = λ _. omega arith }) V v (ok.pair V v) lt;
      join = λ j i. join_put w grows puts' j (record {
        latest = λ _ _ x. ⊎_elim (λ y. absurd (true≢false (sym y.1))) (λ y. absurd (true≢false (sym y.1))) x;
        holds = λ _ e _. absurd (no_page _ e (ok.join j i).formed);
        promise = λ _ _ _. omega arith;
      }) (ok.join j i);
      packet = each_map _ _ (λ p. body_grow grows within p.from p.to p.body) g.packets ok.packet;
      first_view = (grows.each 0 ok.first_view).formed;
      late = λ v. by_page w puts' (λ v r. r.formed ≡ true → r.opened ≡ true → 0 < r.plan.horizon → r.plan.horizon + 50 ≤ g.clock (leader r.plan.storers)) (λ _ o. absurd (true≢false (sym o))) v (ok.late v);
      committed = (ok.committed.0, (grows.each _ ok.committed.1).formed, sure_grow grows _ _ ok.committed.1 ok.committed.2);
    }
