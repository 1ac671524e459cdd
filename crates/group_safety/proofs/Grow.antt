-- What stays true while the history grows.
use Rattle.std.proofs.Common.{◌≡◌, ℕ, ◌+◌, ◌-◌, ◌<◌, ◌≤◌, true, false, List, [], ◌∷◌, length, Option, refl, sym, ap, ◌∙◌, subst, inl, inr, arith, le_trans, lt_of_lt_of_le, ⊎_elim, lt_irrefl}
use Rattle.std.proofs.lemmas.Bool.{cases_eq}
use Rattle.std.proofs.lemmas.Option.{slice_get_within}
use Rattle.group_safety.proofs.May.{accepted}
use Rattle.group_safety.specs.Facts.{BodyOk, CollectsOk, JoinOk, LogOk, PageOk, ServerOk, ViewsOk}
use Rattle.group_safety.specs.Laws.{Grows, PageGrows}
use Rattle.group_rules.specs.Places.{IsIn, Place, Trio, coordinator, leader, partner, put}
use Rattle.group_rules.specs.State.{Ack, Beat, Chose, Collects, Demote, Duty, Event, Fetch, Form, Formed, Give, Invite, Join, JoinMade, Log, Message, Page, Plan, Report, Server, Waits, top}
use Rattle.group_safety.specs.Words.{AheadOfLeader, AheadOfPartner, Each, Holds, In, Into, Part, Promised, Sure}
use Rattle.group_safety.proofs.Common.{put_same, put_other}

pub page_same : {E : Type 0} (p : Page E) → p.formed ≡ true → PageGrows p p
page_same p f = record { formed = f; plan = refl; from = refl; longer = omega arith; agree = λ k l. refl; held_twice = omega arith; until = omega arith; leader_in = λ h. h; partner_in = λ h. h; opened = λ h. h }

-- one page is put, and it grows where it was formed
pub grows_put : {E : Type 0} (page : ℕ → Page E) (w : ℕ) (p : Page E) (v : ℕ) → ((page w).formed ≡ true → PageGrows (page w) p) → (page v).formed ≡ true → PageGrows (page v) (put page w p v)
grows_put page w p v g f = ⊎_elim
    (λ (e : v ≡ w). subst (λ (n : ℕ). PageGrows (page n) (put page w p n)) (sym e) (subst (λ (q : Page _). PageGrows (page w) q) (sym (put_same page w p)) (g (subst (λ (n : ℕ). (page n).formed ≡ true) e f))))
    (λ (ne : v ≡ w → ⊥). subst (λ (q : Page _). PageGrows (page v) q) (sym (put_other page w p v ne)) (page_same (page v) f))
    (cases_eq v w)

pub sure_grow : {E : Type 0} {page page' : ℕ → Page E} {committed committed' : List E} {joins joins' : List JoinMade} → Grows page page' committed committed' joins joins' → (v c : ℕ) → (page v).formed ≡ true → Sure page committed v c → Sure page' committed' v c
sure_grow g v c f s = record {
  in_book = le_trans s.in_book g.longer;
  same = λ k l. sym ((g.each v f).agree k (lt_of_lt_of_le l s.within)) ∙ s.same k l ∙ g.agree k (lt_of_lt_of_le l s.in_book);
  within = le_trans s.within (g.each v f).longer;
  twice = s.twice;
  formed = (g.each s.twice s.formed).formed;
  not_above = s.not_above;
  held_twice = le_trans s.held_twice (g.each s.twice s.formed).held_twice;
}

pub part_grow : {E : Type 0} (p p' : Page E) → PageGrows p p' → (base : ℕ) (items : List E) → base + length items ≤ length p.list → Part base items p.list → Part base items p'.list
part_grow p p' g base items within h k l = h k l ∙ g.agree (base + k) (omega arith)

pub body_grow : {E : Type 0} {page page' : ℕ → Page E} {committed committed' : List E} {joins joins' : List JoinMade} → Grows page page' committed committed' joins joins' → ((v : ℕ) → (page v).formed ≡ true → (page v).plan.start ≤ length (page v).list) → (from to : Place) (m : Message E) → BodyOk page joins committed from to m → BodyOk page' joins' committed' from to m
body_grow g within from to (Invite v) h = h
body_grow g within from to (Join v reports) h = g.more _ h
body_grow g within from to (Form v plan) h = ((g.each v h.0).formed, (g.each v h.0).plan ∙ h.1)
body_grow g within from to (Fetch v first) h = ((g.each v h.0).formed, h.1 ∙ ap (λ (p : Plan). p.source) (sym (g.each v h.0).plan))
body_grow {page = page} {page' = page'} g within from to (Give v index items) h = ((g.each v h.0).formed, h.1, part_grow (page v) (page' v) (g.each v h.0) (index - 1) items (le_trans h.3 (within v h.0)) h.2, subst (λ (p : Plan). index - 1 + length items ≤ p.start) (sym (g.each v h.0).plan) h.3)
body_grow g within from to (Formed v lb) h = ((g.each v h.0).formed, h.1 ∙ ap (λ (p : Plan). partner p.storers) (sym (g.each v h.0).plan), (g.each v h.0).partner_in h.2)
body_grow {page = page} g within from to (Event v index cp base e) h = ((g.each v h.0).formed, (g.each v h.0).opened h.1, h.2, sym ((g.each v h.0).agree (index - 1) (slice_get_within (page v).list (index - 1) e h.3)) ∙ h.3, sure_grow g v cp h.0 h.4)
body_grow g within from to (Beat v cp base) h = ((g.each v h.0).formed, (g.each v h.0).opened h.1, sure_grow g v cp h.0 h.2)
body_grow g within from to (Ack v top lb until) h = ((g.each v h.0).formed, (g.each v h.0).opened h.1, h.2 ∙ ap (λ (p : Plan). partner p.storers) (sym (g.each v h.0).plan), le_trans h.3 (g.each v h.0).held_twice, le_trans h.4 (g.each v h.0).until, h.5)
body_grow g within from to (Demote v) h = ((g.each v h.0).formed, (g.each v h.0).opened h.1, ap (λ (p : Plan). p.storers) (g.each v h.0).plan ∙ h.2)

pub each_map : {X : Type 0} (P Q : X → Type 0) → ((x : X) → P x → Q x) → (xs : List X) → Each P xs → Each Q xs
each_map P Q f [] h = h
each_map P Q f (x ∷ xs) h = (f x h.0, each_map P Q f xs h.1)

-- a page that stays, in a history that grows
pub page_grow : {E : Type 0} {page page' : ℕ → Page E} {committed committed' : List E} {joins joins' : List JoinMade} → Grows page page' committed committed' joins joins' → (v : ℕ) → PageOk page joins committed v (page v) → PageOk page' joins' committed' v (page v)
page_grow g v h = record {
  formed = h.formed;
  origin = (g.each _ h.origin).formed;
  earlier = h.earlier;
  start_within = h.start_within;
  start_origin = le_trans h.start_origin (g.each _ h.origin).longer;
  begins = λ k l. sym ((g.each _ h.origin).agree k (lt_of_lt_of_le l h.start_origin)) ∙ h.begins k l;
  base_sure = sure_grow g v _ h.formed h.base_sure;
  cp_sure = sure_grow g v _ h.formed h.cp_sure;
  kept_within = h.kept_within;
  kept_later = h.kept_later;
  start_kept = h.start_kept;
  opened_leader = h.opened_leader;
  opened_partner = h.opened_partner;
  fresh = h.fresh;
  storers_joined = λ z q i. let s = h.storers_joined z q i in (s.0, g.more _ s.1);
  source = λ z. let s = h.source z in (s.0, g.more _ s.1, s.2, s.3);
}

-- page' is page with p' at w
pub record Puts {E : Type 0} (w : ℕ) (page : ℕ → Page E) (p' : Page E) (page' : ℕ → Page E) : Type 0 where
  pub here : page' w ≡ p'
  pub only : (v : ℕ) → (v ≡ w → ⊥) → page' v ≡ page v

pub puts : {E : Type 0} (w : ℕ) (page : ℕ → Page E) (p : Page E) → Puts w page p (put page w p)
puts w page p = record { here = put_same page w p; only = λ v ne. put_other page w p v ne }

-- a statement on each page, from that on w and that on the others as they were
pub by_page : {E : Type 0} {page page' : ℕ → Page E} {p' : Page E} (w : ℕ) → Puts w page p' page' → (F : ℕ → Page E → Type 0) → F w p' → (v : ℕ) → F v (page v) → F v (page' v)
by_page {page = page} {page' = page'} w at' F new v old = ⊎_elim
    (λ (e : v ≡ w). subst (λ (n : ℕ). F n (page' n)) (sym e) (subst (λ (p : Page _). F w p) (sym at'.here) new))
    (λ (ne : v ≡ w → ⊥). subst (λ (p : Page _). F v p) (sym (at'.only v ne)) old)
    (cases_eq v w)

-- the same for two pages
pub by_pages : {E : Type 0} {page page' : ℕ → Page E} {p' : Page E} (w : ℕ) → Puts w page p' page' → (F : ℕ → ℕ → Page E → Page E → Type 0)
    → F w w p' p' → ((V : ℕ) → F V w (page V) p') → ((v : ℕ) → F w v p' (page v)) → (V v : ℕ) → F V v (page V) (page v) → F V v (page' V) (page' v)
by_pages {page = page} {page' = page'} {p' = p'} w at' F both above below V v old =
    by_page w at' (λ n p. F V n (page' V) p) (by_page w at' (λ N P. F N w P p') both V (above V)) v (by_page w at' (λ N P. F N v P (page v)) (below v) V old)

-- what a changed page w must meet for a join that stays
pub record JoinAt {E : Type 0} (w : ℕ) (p p' : Page E) (j : JoinMade) : Type 0 where
  pub latest : p'.formed ≡ true → w < j.view → Into p' j.from → w ≤ j.report.accepted
  pub holds : j.report.held ≡ Log → j.report.accepted ≡ w → Holds p j.from j.report.top → Holds p' j.from j.report.top
  pub promise : p'.formed ≡ true → w < j.view → j.from ≡ partner p'.plan.storers → p'.until ≤ j.report.horizon

pub holds_put : {E : Type 0} {page page' : ℕ → Page E} {p' : Page E} (w : ℕ) → Puts w page p' page' → (q : Place) (v n : ℕ) → (v ≡ w → Holds (page w) q n → Holds p' q n) → Holds (page v) q n → Holds (page' v) q n
holds_put {page = page} {page' = page'} w at' q v n special h = ⊎_elim
    (λ (e : v ≡ w). subst (λ (m : ℕ). Holds (page' m) q n) (sym e) (subst (λ (p : Page _). Holds p q n) (sym at'.here) (special e (subst (λ (m : ℕ). Holds (page m) q n) e h))))
    (λ (ne : v ≡ w → ⊥). subst (λ (p : Page _). Holds p q n) (sym (at'.only _ ne)) h)
    (cases_eq v w)

pub join_put : {E : Type 0} {page page' : ℕ → Page E} {p' : Page E} {committed committed' : List E} {joins joins' : List JoinMade} (w : ℕ) → Grows page page' committed committed' joins joins' → Puts w page p' page' → (j : JoinMade) → JoinAt w (page w) p' j → JoinOk page committed j → JoinOk page' committed' j
join_put w g at' j special h = record {
  formed = (g.each _ h.formed).formed;
  earlier = h.earlier;
  base_cp = h.base_cp;
  cp_top = h.cp_top;
  latest = λ V. by_page w at' (λ v p. p.formed ≡ true → v < j.view → Into p j.from → v ≤ j.report.accepted) special.latest V (h.latest V);
  holds = λ l. holds_put w at' j.from _ _ (special.holds l) (h.holds l);
  sure = sure_grow g _ _ h.formed h.sure;
  promise = λ V. by_page w at' (λ v p. p.formed ≡ true → v < j.view → j.from ≡ partner p.plan.storers → p.until ≤ j.report.horizon) special.promise V (h.promise V);
}

-- what a changed page w must meet for a server's views that stay
pub record ViewsAt {E : Type 0} (w : ℕ) (page : ℕ → Page E) (p' : Page E) (q : Place) (promised accepted : ℕ) : Type 0 where
  pub promises : p'.formed ≡ true → IsIn p'.plan.storers q → w ≤ promised
  pub into : p'.formed ≡ true → Into p' q → w ≤ accepted
  pub own : p'.formed ≡ true → coordinator w ≡ q → w ≤ promised
  pub above : (V : ℕ) → AheadOfLeader q promised V w (page V) p' × AheadOfPartner q promised V w (page V) p'
  pub below : (v : ℕ) → AheadOfLeader q promised w v p' (page v) × AheadOfPartner q promised w v p' (page v)

pub views_put : {E : Type 0} {page page' : ℕ → Page E} {p' : Page E} {committed committed' : List E} {joins joins' : List JoinMade} (w : ℕ) → Grows page page' committed committed' joins joins' → Puts w page p' page' → (q : Place) (promised accepted : ℕ)
    → ViewsAt w page p' q promised accepted → ((j : JoinMade) → In joins' j → j.from ≡ q → In joins j) → ViewsOk page joins q promised accepted → ViewsOk page' joins' q promised accepted
views_put w g at' q promised accepted special fresh h = record {
  order = h.order;
  formed = (g.each _ h.formed).formed;
  promises = λ v. by_page w at' (λ v p. p.formed ≡ true → IsIn p.plan.storers q → v ≤ promised) special.promises v (h.promises v);
  into = λ v. by_page w at' (λ v p. p.formed ≡ true → Into p q → v ≤ accepted) special.into v (h.into v);
  own = λ v. by_page w at' (λ v p. p.formed ≡ true → coordinator v ≡ q → v ≤ promised) special.own v (h.own v);
  joined = λ j i f. h.joined j (fresh j i f) f;
  ahead_of_leader = λ V v. by_pages w at' (λ V v p r. AheadOfLeader q promised V v p r) (λ l. absurd (lt_irrefl w l)) (λ V. (special.above V).0) (λ v. (special.below v).0) V v (h.ahead_of_leader V v);
  ahead_of_partner = λ V v. by_pages w at' (λ V v p r. AheadOfPartner q promised V v p r) (λ l. absurd (lt_irrefl w l)) (λ V. (special.above V).1) (λ v. (special.below v).1) V v (h.ahead_of_partner V v);
}

pub log_put : {E : Type 0} {page page' : ℕ → Page E} {p' : Page E} {committed committed' : List E} {joins joins' : List JoinMade} (w : ℕ) → Grows page page' committed committed' joins joins' → Puts w page p' page' → (q : Place) (v base cp : ℕ) (items : List E) → (page v).formed ≡ true
    → ((n : ℕ) → v ≡ w → Holds (page w) q n → Holds p' q n) → LogOk page committed q v base cp items → LogOk page' committed' q v base cp items
log_put {page = page} {page' = page'} w g at' q v base cp items f special h = record {
  base_cp = h.base_cp;
  cp_top = h.cp_top;
  holds = holds_put w at' q v _ (special _) h.holds;
  part = part_grow (page v) (page' v) (g.each v f) base items h.holds.within h.part;
  sure = sure_grow g v cp f h.sure;
}

pub into_grow : {E : Type 0} {p p' : Page E} {q : Place} → PageGrows p p' → Into p q → Into p' q
into_grow g h = ⊎_elim
    (λ i. inl (i.0 ∙ ap (λ (x : Plan). leader x.storers) (sym g.plan), g.leader_in i.1))
    (λ i. inr (i.0 ∙ ap (λ (x : Plan). partner x.storers) (sym g.plan), g.partner_in i.1))
    h

pub leads_grow : {E : Type 0} {p p' : Page E} {q : Place} → PageGrows p p' → q ≡ leader p.plan.storers → q ≡ leader p'.plan.storers
leads_grow g e = e ∙ ap (λ (x : Plan). leader x.storers) (sym g.plan)

pub follows_grow : {E : Type 0} {p p' : Page E} {q : Place} → PageGrows p p' → q ≡ partner p.plan.storers → q ≡ partner p'.plan.storers
follows_grow g e = e ∙ ap (λ (x : Plan). partner x.storers) (sym g.plan)

-- what a changed page w must meet for a server that stays
pub record ServerAt {E : Type 0} (w : ℕ) (page : ℕ → Page E) (p' : Page E) (joins joins' : List JoinMade) (clock : ℕ) (q : Place) (s : Server E) : Type 0 where
  pub views : ViewsAt w page p' q s.promised s.accepted
  pub unformed : (reports : Trio (Option Report)) → s.duty ≡ Collects reports → s.promised ≡ w → p'.formed ≡ false
  pub holds : (n : ℕ) → s.accepted ≡ w → Holds (page w) q n → Holds p' q n
  pub promise : Promised q s.up s.horizon clock s.longest w p'
  pub waits : s.mode ≡ Waits → s.accepted ≡ w → q ≡ leader p'.plan.storers → p'.opened ≡ false
  pub fresh : (j : JoinMade) → In joins' j → j.from ≡ q → In joins j

pub server_put : {E : Type 0} {page page' : ℕ → Page E} {p' : Page E} {committed committed' : List E} {joins joins' : List JoinMade} {clock : ℕ} (w : ℕ) → Grows page page' committed committed' joins joins' → Puts w page p' page' → (q : Place) (s : Server E)
    → ((v : ℕ) → (page v).formed ≡ true → (page v).plan.start ≤ length (page v).list)
    → ServerAt w page p' joins joins' clock q s → ServerOk page joins committed clock q s → ServerOk page' joins' committed' clock q s
server_put {page = page} {page' = page'} {clock = clock} w g at' q s within special h =
    let f = h.views.formed in
    let m = h.modes in
    record {
      views = views_put w g at' q _ _ special.views special.fresh h.views;
      logs = record {
        log = λ l. log_put w g at' q _ _ _ _ f special.holds (h.logs.log l);
        lb_sure = sure_grow g _ _ f h.logs.lb_sure;
        saved = λ v e r. log_put w g at' q _ _ _ _ f special.holds (h.logs.saved v e r);
        order = h.logs.order;
        empty = h.logs.empty;
        served = λ l. subst (λ (p : Plan). s.served ≤ p.start) (sym (g.each _ f).plan) (h.logs.served l);
        saved_order = h.logs.saved_order;
      };
      modes = record {
        active = λ a. ((m.active a).0, (m.active a).1, (m.active a).2, into_grow (g.each _ f) (m.active a).3, (m.active a).4);
        plan = λ a. m.plan a ∙ sym (g.each _ f).plan;
        leads = λ e. (leads_grow (g.each _ f) (m.leads e).0, (g.each _ f).opened (m.leads e).1, le_trans (m.leads e).2 (g.each _ f).until);
        follows = λ e. (follows_grow (g.each _ f) (m.follows e).0, (g.each _ f).opened (m.follows e).1);
        waits = λ e. by_page w at' (λ v p. s.accepted ≡ v → q ≡ leader p.plan.storers → p.opened ≡ false) (special.waits e) s.accepted (λ _. m.waits e) refl;
        heard = λ x lb e. let y = m.heard x lb e in ((g.each _ y.0).formed, follows_grow (g.each _ y.0) y.1, (g.each _ y.0).partner_in y.2);
        joining = λ e. ((m.joining e).0, g.more _ (m.joining e).1);
        pulls = λ e. let x = m.pulls e in let y = g.each _ x.0 in (
          y.formed,
          x.1 ∙ sym y.plan,
          part_grow _ _ y s.wanted_from s.staged (le_trans x.3 (within _ x.0)) x.2,
          subst (λ (l : Plan). s.wanted_from + length s.staged ≤ l.start) (sym y.plan) x.3,
          x.4,
          x.5,
          x.6,
        );
      };
      duty = λ reports e. let x = h.duty reports e in record {
        positive = x.positive;
        own = x.own;
        unformed = by_page w at' (λ v p. s.promised ≡ v → p.formed ≡ false) (special.unformed reports e) s.promised (λ _. x.unformed) refl;
        joined = λ y t i. g.more _ (x.joined y t i);
      };
      chose = λ v plan e. let x = h.chose v plan e in (x.0, (g.each _ x.1).formed, (g.each _ x.1).plan ∙ x.2);
      outside = λ e. let x = h.outside e in (x.0, ⊎_elim (λ y. inl y) (λ y. inr ((g.each _ f).opened y.0, ap (λ (l : Plan). l.storers) (g.each _ f).plan ∙ y.1)) x.1);
      tells = λ w j i f. h.tells w j (special.fresh j i f) f;
      promise = λ v. by_page w at' (λ v p. Promised q s.up s.horizon clock s.longest v p) special.promise v (h.promise v);
    }

pub puts_none : {E : Type 0} (w : ℕ) (page : ℕ → Page E) → Puts w page (page w) page
puts_none w page = record { here = refl; only = λ v ne. refl }

-- a server that stays, where no page changes
pub server_more : {E : Type 0} {page : ℕ → Page E} {committed committed' : List E} {joins joins' : List JoinMade} {clock : ℕ} → Grows page page committed committed' joins joins' → (q : Place) (s : Server E)
    → ((v : ℕ) → (page v).formed ≡ true → (page v).plan.start ≤ length (page v).list)
    → ((j : JoinMade) → In joins' j → j.from ≡ q → In joins j) → ServerOk page joins committed clock q s → ServerOk page joins' committed' clock q s
server_more {page = page} g q s within fresh h = server_put 0 g (puts_none 0 page) q s within
    (record {
      views = record {
        promises = h.views.promises 0;
        into = h.views.into 0;
        own = h.views.own 0;
        above = λ V. (h.views.ahead_of_leader V 0, h.views.ahead_of_partner V 0);
        below = λ v. (h.views.ahead_of_leader 0 v, h.views.ahead_of_partner 0 v);
      };
      unformed = λ reports e f. subst (λ (n : ℕ). (page n).formed ≡ false) f (h.duty reports e).unformed;
      holds = λ n e x. x;
      promise = h.promise 0;
      waits = λ e f. subst (λ (n : ℕ). q ≡ leader (page n).plan.storers → (page n).opened ≡ false) f (h.modes.waits e);
      fresh = fresh;
    }) h

pub join_more : {E : Type 0} {page : ℕ → Page E} {committed committed' : List E} {joins joins' : List JoinMade} → Grows page page committed committed' joins joins' → (j : JoinMade) → JoinOk page committed j → JoinOk page committed' j
join_more {page = page} g j h = record {
  formed = h.formed;
  earlier = h.earlier;
  base_cp = h.base_cp;
  cp_top = h.cp_top;
  latest = h.latest;
  holds = h.holds;
  sure = sure_grow g _ _ h.formed h.sure;
  promise = h.promise;
}

-- a server that changes its coordinator's part alone
pub with_call : {E : Type 0} {page : ℕ → Page E} {joins : List JoinMade} {committed : List E} {clock : ℕ} (q : Place) (s : Server E) (c : Duty) → ServerOk page joins committed clock q s
    → ((reports : Trio (Option Report)) → c ≡ Collects reports → CollectsOk page joins q s.promised reports)
    → ((v : ℕ) (plan : Plan) → c ≡ Chose v plan → (v ≤ s.promised) × ((page v).formed ≡ true) × ((page v).plan ≡ plan))
    → ServerOk page joins committed clock q (record s { duty = c })
with_call q s c h a b =
    let m = h.modes in
    record {
      views = h.views;
      logs = record { log = h.logs.log; lb_sure = h.logs.lb_sure; saved = h.logs.saved; order = h.logs.order; empty = h.logs.empty; served = h.logs.served; saved_order = h.logs.saved_order };
      modes = record { active = m.active; plan = m.plan; leads = m.leads; follows = m.follows; waits = m.waits; heard = m.heard; joining = m.joining; pulls = m.pulls };
      duty = a;
      chose = b;
      outside = h.outside;
      tells = h.tells;
      promise = h.promise;
    }
