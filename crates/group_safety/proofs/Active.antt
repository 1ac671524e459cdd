-- A server that is active in its view after a change of that view's page.
use Rattle.std.proofs.Common.{◌≡◌, ℕ, ◌+◌, ◌≤◌, true, false, List, length, Option, None, Some, sym, ap, ◌∙◌, subst, le_trans, lt_irrefl, le_refl}
use Rattle.group_safety.specs.Facts.{LogOk, ServerOk, ViewsOk}
use Rattle.group_safety.specs.Laws.{Grows}
use Rattle.group_rules.specs.Places.{IsIn, Place, Trio, coordinator, get, leader, partner}
use Rattle.group_rules.specs.State.{Chose, Collects, JoinMade, Joins, Live, Log, Mode, Open, Outside, Page, Plan, Pulls, Report, Rests, Server, Waits}
use Rattle.group_safety.specs.Words.{AheadOfLeader, AheadOfPartner, Holds, Into, IsActive, IsJoining, Part, Promised, Sure}
use Rattle.group_safety.proofs.Common.{sure_less}
use Rattle.group_safety.proofs.Grow.{Puts, by_page, by_pages, ViewsAt}

-- What is asked of the server s, active in w, and of the new page p' of w
pub record ActiveAt {E : Type 0} (w : ℕ) (page : ℕ → Page E) (p' : Page E) (page' : ℕ → Page E) (committed' : List E) (clock : ℕ) (q : Place) (s : Server E) : Type 0 where
  pub formed : p'.formed ≡ true
  pub views : ViewsAt w page p' q w w
  pub held : s.held ≡ Log
  pub saved : s.saved ≡ None
  pub base_cp : s.base ≤ s.cp
  pub cp_top : s.cp ≤ s.base + length s.items
  pub holds : Holds p' q (s.base + length s.items)
  pub part : Part s.base s.items p'.list
  pub sure : Sure page' committed' w s.cp
  pub order : (s.base ≤ s.lb) × (s.lb ≤ s.ap) × (s.ap ≤ s.cp)
  pub into : Into p' q
  pub served : s.served ≤ p'.plan.start
  pub inside : s.role ≡ Outside → ⊥
  pub plan : s.plan ≡ p'.plan
  pub chose : (v : ℕ) (plan : Plan) → s.duty ≡ Chose v plan → (v ≤ w) × ((page v).formed ≡ true) × ((page v).plan ≡ plan)
  pub active : IsActive s.mode
  pub leads : s.mode ≡ Open → (q ≡ leader p'.plan.storers) × (p'.opened ≡ true) × (s.grant ≤ p'.until)
  pub follows : s.mode ≡ Live → (q ≡ partner p'.plan.storers) × (p'.opened ≡ true)
  pub waits : s.mode ≡ Waits → q ≡ leader p'.plan.storers → p'.opened ≡ false
  pub heard : (x : Place) (lb : ℕ) → get s.heard x ≡ Some lb → (x ≡ partner p'.plan.storers) × (p'.partner_in ≡ true)
  pub duty : (reports : Trio (Option Report)) → s.duty ≡ Collects reports → ⊥
  pub here : Promised q s.up s.horizon clock s.longest w p'
  pub promise : (V : ℕ) → Promised q s.up s.horizon clock s.longest V (page V)

not_both : (m : Mode) → IsActive m → IsJoining m → ⊥
not_both Rests a b = a
not_both Joins a b = a
not_both Pulls a b = a
not_both Waits a b = b
not_both Open a b = b
not_both Live a b = b

pulls_joins : (m : Mode) → m ≡ Pulls → IsJoining m
pulls_joins m e = subst (λ (x : Mode). IsJoining x) (sym e) tt

pub active_put : {E : Type 0} {page page' : ℕ → Page E} {p' : Page E} {committed committed' : List E} {joins : List JoinMade} {clock : ℕ} (w : ℕ) → Grows page page' committed committed' joins joins → Puts w page p' page' → (q : Place) (s : Server E)
    → s.promised ≡ w → s.accepted ≡ w → {accepted : ℕ} → ViewsOk page joins q w accepted → ActiveAt w page p' page' committed' clock q s → ServerOk page' joins committed' clock q s
active_put {page = page} {page' = page'} {p' = p'} {committed' = committed'} {joins = joins} {clock = clock} w g at' q s sp sa {accepted = acc} h a =
    let views' : ViewsOk page' joins q w w = record {
      order = le_refl w;
      formed = subst (λ (p : Page _). p.formed ≡ true) (sym at'.here) a.formed;
      promises = λ v. by_page w at' (λ v p. p.formed ≡ true → IsIn p.plan.storers q → v ≤ w) a.views.promises v (h.promises v);
      into = λ v. by_page w at' (λ v p. p.formed ≡ true → Into p q → v ≤ w) a.views.into v (λ f i. le_trans (h.into v f i) h.order);
      own = λ v. by_page w at' (λ v p. p.formed ≡ true → coordinator v ≡ q → v ≤ w) a.views.own v (h.own v);
      joined = h.joined;
      ahead_of_leader = λ V v. by_pages w at' (λ V v p r. AheadOfLeader q w V v p r) (λ l. absurd (lt_irrefl w l)) (λ V. (a.views.above V).0) (λ v. (a.views.below v).0) V v (h.ahead_of_leader V v);
      ahead_of_partner = λ V v. by_pages w at' (λ V v p r. AheadOfPartner q w V v p r) (λ l. absurd (lt_irrefl w l)) (λ V. (a.views.above V).1) (λ v. (a.views.below v).1) V v (h.ahead_of_partner V v);
    } in
    let views'' : ViewsOk page' joins q s.promised s.accepted = subst (λ (n : ℕ). ViewsOk page' joins q n s.accepted) (sym sp) (subst (λ (n : ℕ). ViewsOk page' joins q w n) (sym sa) views') in
    -- the page of the accepted view is p'
    let here : page' s.accepted ≡ p' = ap page' sa ∙ at'.here in
    let here_promised : page' s.promised ≡ p' = ap page' sp ∙ at'.here in
    let log : LogOk page' committed' q s.accepted s.base s.cp s.items = record {
      base_cp = a.base_cp;
      cp_top = a.cp_top;
      holds = subst (λ (p : Page _). Holds p q (s.base + length s.items)) (sym here) a.holds;
      part = subst (λ (p : Page _). Part s.base s.items p.list) (sym here) a.part;
      sure = subst (λ (n : ℕ). Sure page' committed' n s.cp) (sym sa) a.sure;
    } in
    record {
      views = views'';
      logs = record { log = λ _. log; lb_sure = sure_less page' committed' s.accepted s.cp s.lb (le_trans a.order.1 a.order.2) log.sure; saved = λ v e r. cc (a.saved, e); order = λ _. a.order; empty = λ e. cc (a.held, e); served = λ _. subst (λ (p : Page _). s.served ≤ p.plan.start) (sym here) a.served; saved_order = λ v e. cc (a.saved, e) };
      modes = record {
        active = λ _. (a.held, sp ∙ sym sa, a.saved, subst (λ (p : Page _). Into p q) (sym here) a.into, a.inside);
        plan = λ _. a.plan ∙ sym (ap (λ (p : Page _). p.plan) here);
        leads = λ e. subst (λ (p : Page _). (q ≡ leader p.plan.storers) × (p.opened ≡ true) × (s.grant ≤ p.until)) (sym here) (a.leads e);
        follows = λ e. subst (λ (p : Page _). (q ≡ partner p.plan.storers) × (p.opened ≡ true)) (sym here) (a.follows e);
        waits = λ e. subst (λ (p : Page _). q ≡ leader p.plan.storers → p.opened ≡ false) (sym here) (a.waits e);
        heard = λ x lb e. let y = a.heard x lb e in subst (λ (p : Page _). (p.formed ≡ true) × (x ≡ partner p.plan.storers) × (p.partner_in ≡ true)) (sym here_promised) (a.formed, y.0, y.1);
        joining = λ j. absurd (not_both s.mode a.active j);
        pulls = λ e. absurd (not_both s.mode a.active (pulls_joins s.mode e));
      };
      duty = λ reports e. absurd (a.duty reports e);
      chose = λ v plan e. let x = a.chose v plan e in (subst (λ (n : ℕ). v ≤ n) (sym sp) x.0, (g.each _ x.1).formed, (g.each _ x.1).plan ∙ x.2);
      outside = λ e. absurd (a.inside e);
      tells = λ j. absurd (not_both s.mode a.active j);
      promise = λ v. by_page w at' (λ v p. Promised q s.up s.horizon clock s.longest v p) a.here v (a.promise v);
    }
