-- A storer that accepts its view keeps the facts.
use Rattle.std.proofs.Common.{◌≡◌, ℕ, ◌+◌, ◌<◌, ◌≤◌, ◌⊎◌, Bool, true, false, length, refl, sym, ap, ◌∙◌, subst, inl, inr, arith, le_trans, lt_of_lt_of_le, lt_of_le_of_lt, if◌then◌else◌, true≢false, ⊎_elim, lt_irrefl, le_of_eq, le_refl, zero-le}
use Rattle.std.proofs.lemmas.Bool.{cases_Bool}
use Rattle.group_safety.proofs.May.{MayAccept, accepted}
use Rattle.group_rules.specs.Effects.{NewLog, accepting}
use Rattle.group_safety.specs.Facts.{Ok, PageOk, PairOk, ServerOk}
use Rattle.group_safety.specs.Laws.{Grows, PageGrows}
use Rattle.group_rules.specs.Moves.{into_page}
use Rattle.group_rules.specs.Places.{IsIn, Zero, One, Two, Place, get, leader, partner, put, same}
use Rattle.group_rules.specs.State.{Group, Page, Plan, Role}
use Rattle.group_safety.specs.Words.{Holds, Into}
use Rattle.group_safety.proofs.Common.{each_other, share, either, fitting_is}
use Rattle.group_safety.proofs.Active.{active_put}
use Rattle.group_safety.proofs.Grow.{sure_grow, body_grow, each_map, server_put, ViewsAt, join_put, page_grow, Puts, puts, by_page, by_pages, grows_put}

pub same_is : (a b : Place) → same a b ≡ true → a ≡ b
same_is Zero Zero h = refl
same_is One One h = refl
same_is Two Two h = refl
same_is Zero One h = cc
same_is Zero Two h = cc
same_is One Zero h = cc
same_is One Two h = cc
same_is Two Zero h = cc
same_is Two One h = cc

pub same_self : (a : Place) → same a a ≡ true
same_self Zero = refl
same_self One = refl
same_self Two = refl

-- a flag that is set where a test holds
pub flag_keeps : (t f : Bool) → f ≡ true → (if t then true else f) ≡ true
flag_keeps t f h = grind arith

flag_new : (t f : Bool) → (if t then true else f) ≡ true → (t ≡ true) ⊎ (f ≡ true)
flag_new true f h = inl refl
flag_new false f h = inr h

-- who was in the page before, or is q
into_new : {E : Type 0} (p : Page E) (q x : Place) → Into (into_page p q) x → (x ≡ q) ⊎ Into p x
into_new p q x h = ⊎_elim
    (λ i. ⊎_elim (λ t. inl (i.0 ∙ sym (same_is _ _ t))) (λ f. inr (inl (i.0, f))) (flag_new _ _ i.1))
    (λ i. ⊎_elim (λ t. inl (i.0 ∙ sym (same_is _ _ t))) (λ f. inr (inr (i.0, f))) (flag_new _ _ i.1))
    h

into_self : {E : Type 0} (p : Page E) (q : Place) → IsIn p.plan.storers q → Into (into_page p q) q
into_self p q h = ⊎_elim
    (λ (e : q ≡ leader p.plan.storers). inl (e, rw e (rw same_self refl)))
    (λ (e : q ≡ partner p.plan.storers). inr (e, rw e (rw same_self refl)))
    (either p.plan.storers q h)

-- no view above w is formed while neither storer of w promised one
pub none_above : {E : Type 0} (g : Group E) → Ok g → (w v : ℕ) → w < v → (g.page v).formed ≡ true → (a b : Place) → a ≡ leader (g.page w).plan.storers → b ≡ partner (g.page w).plan.storers
    → (g.server a).promised ≤ w → (g.server b).promised ≤ w → ⊥
none_above g ok w v lt f a b ea eb pa pb =
    let s = share (g.page w).plan.storers (g.page v).plan.storers in
    let high : v ≤ (g.server s.0).promised = (ok.server s.0).views.promises v f s.2 in
    let no : (x : Place) → s.0 ≡ x → (g.server x).promised ≤ w → ⊥ = λ x e le. lt_irrefl w (lt_of_lt_of_le lt (le_trans high (subst (λ (y : Place). (g.server y).promised ≤ w) (sym e) le))) in
    ⊎_elim (λ e. no a (e ∙ sym ea) pa) (λ e. no b (e ∙ sym eb) pb) (either (g.page w).plan.storers s.0 s.1)

-- the page of a view that q hasn't accepted is not opened
pub unopened : {E : Type 0} (g : Group E) → Ok g → (q : Place) (w : ℕ) → (g.page w).formed ≡ true → IsIn (g.page w).plan.storers q → (g.server q).accepted < w → (g.page w).opened ≡ false
unopened g ok q w f i lt = ⊎_elim
    (λ (o : (g.page w).opened ≡ true).
    let in' : Into (g.page w) q = ⊎_elim (λ e. inl (e, (ok.page w f).opened_leader o)) (λ e. inr (e, (ok.page w f).opened_partner o)) (either (g.page w).plan.storers q i) in
    absurd (lt_irrefl w (lt_of_le_of_lt ((ok.server q).views.into w f in') lt)))
    (λ e. e)
    (cases_Bool (g.page w).opened)

-- what the page w asks of the views of any server
views_at : {E : Type 0} (g : Group E) → Ok g → (q : Place) → (g.page (g.server q).promised).formed ≡ true → (x : Place) (accepted : ℕ) → (x ≡ q → (g.server q).promised ≤ accepted) → (g.server x).accepted ≤ accepted
    → ViewsAt (g.server q).promised g.page (into_page (g.page (g.server q).promised) q) x (g.server x).promised accepted
views_at g ok q fw x acc self more =
    let w = (g.server q).promised in
    let h = (ok.server x).views in
    let to_q : (y : Place) → q ≡ y → (g.server y).promised ≤ w = λ y e. subst (λ (z : Place). (g.server z).promised ≤ w) e (le_refl w) in
    record {
      promises = λ f i. h.promises w f i;
      into = λ f i. ⊎_elim self (λ j. le_trans (h.into w f j) more) (into_new (g.page w) q x i);
      own = λ f e. h.own w f e;
      above = λ V. (h.ahead_of_leader V w, h.ahead_of_partner V w);
      below = λ v. (
        λ lt f f' e l stays. ⊎_elim
            (λ (t : same q (leader (g.page w).plan.storers) ≡ true). absurd (none_above g ok w v lt f' q x (same_is _ _ t) e (le_refl w) stays))
            (λ (old : (g.page w).leader_in ≡ true). h.ahead_of_leader w v lt f f' e old stays)
            (flag_new _ _ l),
        λ lt f f' e l stays. ⊎_elim
            (λ (t : same q (partner (g.page w).plan.storers) ≡ true). absurd (none_above g ok w v lt f' x q e (same_is _ _ t) stays (le_refl w)))
            (λ (old : (g.page w).partner_in ≡ true). h.ahead_of_partner w v lt f f' e old stays)
            (flag_new _ _ l),
      );
    }

pub accept_kept : {E : Type 0} (g : Group E) → Ok g → (q : Place) (plan : Plan) (role : Role) (n : NewLog E) → MayAccept g q (g.server q) plan role n → Ok (accepted g q plan role n)
accept_kept {E = E} g ok q plan role n m =
    let w = (g.server q).promised in
    let p : Page E = g.page w in
    let p' : Page E = into_page p q in
    let s' = accepting (g.server q) plan role n in
    let closed : p.opened ≡ false = unopened g ok q w m.formed m.storer m.earlier in
    let grows_page : PageGrows p p' = record {
      formed = m.formed;
      plan = refl;
      from = refl;
      longer = le_refl _;
      agree = λ k l. refl;
      held_twice = le_refl _;
      until = le_refl _;
      leader_in = λ h. flag_keeps _ _ h;
      partner_in = λ h. flag_keeps _ _ h;
      opened = λ h. h;
    } in
    let grows : Grows g.page (put g.page w p') g.committed g.committed g.joins g.joins = record { each = λ v f. grows_put g.page w p' v (λ _. grows_page) f; longer = le_refl _; agree = λ k l. refl; more = λ j i. i } in
    let at' : Puts w g.page p' (put g.page w p') = puts w g.page p' in
    let within : (v : ℕ) → (g.page v).formed ≡ true → (g.page v).plan.start ≤ length (g.page v).list = λ v f. (ok.page v f).start_within in
    let same_holds : (x : Place) (k : ℕ) → Holds p x k → Holds p' x k = λ x k h. record { storer = h.storer; from_start = h.from_start; held_twice = h.held_twice; within = h.within; all = h.all } in
    let none_kept : p.held_twice ≡ 0 = (ok.page w m.formed).kept_later closed in
    record {
      server = each_other (λ x s. ServerOk (put g.page w p') g.joins g.committed (g.clock x) x s) g.server q s'
          (λ x ne. server_put w grows at' x (g.server x) within (record {
            views = views_at g ok q m.formed x (g.server x).accepted (λ e. absurd (ne e)) (le_refl _);
            unformed = λ reports e f. absurd (true≢false (sym m.formed ∙ ap (λ (k : ℕ). (g.page k).formed) (sym f) ∙ ((ok.server x).duty reports e).unformed));
            holds = λ k _ h. same_holds x k h;
            promise = (ok.server x).promise w;
            waits = λ e a l. closed;
            fresh = λ j i _. i;
          }) (ok.server x))
          (let h = ok.server q in
          active_put w grows at' q s' refl refl h.views (record {
            formed = m.formed;
            views = views_at g ok q m.formed q w (λ _. le_refl _) h.views.order;
            held = refl;
            saved = refl;
            base_cp = m.base_cp;
            cp_top = m.cp_top;
            holds = record {
              storer = m.storer;
              from_start = le_of_eq (sym m.whole);
              held_twice = subst (λ (k : ℕ). k ≤ n.base + length n.items) (sym none_kept) zero-le;
              within = subst (λ (k : ℕ). k ≤ length p.list) (sym m.whole) (within w m.formed);
              all = λ _. m.whole ∙ sym ((ok.page w m.formed).fresh closed);
            };
            part = m.part;
            sure = sure_grow grows w n.cp m.formed m.sure;
            order = m.order;
            into = into_self p q m.storer;
            inside = m.inside;
            served = le_of_eq (ap (λ (x : Plan). x.start) m.known);
            plan = m.known;
            chose = h.chose;
            active = tt;
            leads = λ e. cc;
            follows = λ e. cc;
            waits = λ _ _. closed;
            heard = λ x lb e. let z = fitting_is plan (get (g.server q).heard (partner plan.storers)) x lb e in (z.0 ∙ ap (λ (y : Plan). partner y.storers) m.known, flag_keeps _ _ (h.modes.heard (partner plan.storers) lb z.1).2);
            duty = λ reports e. true≢false (sym m.formed ∙ (h.duty reports e).unformed);
            here = h.promise w;
            promise = h.promise;
          }));
      page = λ v f. by_page w at' (λ v r. r.formed ≡ true → PageOk (put g.page w p') g.joins g.committed v r) (λ f'.
          let o = page_grow grows w (ok.page w m.formed) in
          record {
            formed = o.formed;
            origin = o.origin;
            earlier = o.earlier;
            start_within = o.start_within;
            start_origin = o.start_origin;
            begins = o.begins;
            base_sure = o.base_sure;
            cp_sure = o.cp_sure;
            kept_within = o.kept_within;
            kept_later = o.kept_later;
            start_kept = o.start_kept;
            opened_leader = λ e. flag_keeps _ _ (o.opened_leader e);
            opened_partner = λ e. flag_keeps _ _ (o.opened_partner e);
            fresh = o.fresh;
            storers_joined = o.storers_joined;
            source = o.source;
          })
          v (λ f'. page_grow grows v (ok.page v f')) f;
      pair = λ V v lt. by_pages w at' (λ V v a b. V < v → a.formed ≡ true → b.formed ≡ true → PairOk V v a b)
          (λ l. absurd (lt_irrefl w l)) (λ V l f f'. let o = ok.pair V w l f f' in record { kept_start = o.kept_start; agree = o.agree; promise = o.promise }) (λ v l f f'. let o = ok.pair w v l f f' in record { kept_start = o.kept_start; agree = o.agree; promise = o.promise }) V v (ok.pair V v) lt;
      join = λ j i. join_put w grows at' j (record {
        latest = λ f l x. ⊎_elim
            (λ (e : j.from ≡ q). absurd (lt_irrefl w (lt_of_lt_of_le l ((ok.server q).views.joined j i e))))
            (λ y. (ok.join j i).latest w f l y) (into_new p q j.from x);
        holds = λ _ _ h. same_holds j.from _ h;
        promise = (ok.join j i).promise w;
      }) (ok.join j i);
      packet = each_map _ _ (λ x. body_grow grows within x.from x.to x.body) g.packets ok.packet;
      first_view = (grows.each 0 ok.first_view).formed;
      late = λ v. by_page w at' (λ v r. r.formed ≡ true → r.opened ≡ true → 0 < r.plan.horizon → r.plan.horizon + 50 ≤ g.clock (leader r.plan.storers)) (ok.late w) v (ok.late v);
      committed = (ok.committed.0, (grows.each _ ok.committed.1).formed, sure_grow grows _ _ ok.committed.1 ok.committed.2);
    }
