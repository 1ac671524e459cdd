-- A server that joins a higher view keeps the facts.
use Rattle.std.proofs.Common.{◌≡◌, ℕ, ◌+◌, ◌<◌, ◌≤◌, true, List, ◌∷◌, length, refl, sym, ap, ◌∙◌, subst, inl, inr, arith, le_trans, lt_of_le_of_lt, ⊎_elim, lt_irrefl, le_of_lt, le_of_eq, le_refl, zero-le}
use Rattle.std.proofs.lemmas.Bool.{cases_Bool}
use Rattle.group_safety.proofs.May.{MayJoin, joined}
use Rattle.group_rules.specs.Effects.{joined_server, report_of}
use Rattle.group_safety.specs.Facts.{JoinOk, Ok, ServerOk}
use Rattle.group_safety.specs.Laws.{Grows}
use Rattle.group_rules.specs.Limits.{by_held}
use Rattle.group_rules.specs.Places.{Place}
use Rattle.group_rules.specs.State.{Duty, Empty, Group, Held, JoinMade, Log, Lost, Page}
use Rattle.group_safety.specs.Words.{Holds, Sure}
use Rattle.group_safety.proofs.Common.{each_other, none_heard}
use Rattle.group_safety.proofs.Grow.{page_same, body_grow, each_map, server_more, page_grow}

pub sure_zero : {E : Type 0} (page : ℕ → Page E) (committed : List E) (v : ℕ) → (page v).formed ≡ true → Sure page committed v 0
sure_zero page committed v f = record { in_book = zero-le; same = λ k l. absurd (omega arith); within = zero-le; twice = v; formed = f; not_above = le_refl v; held_twice = zero-le }

pub by_cases : (x : Held) (F : Held → Type 0) → (x ≡ Log → F Log) → (x ≡ Lost → F Lost) → (x ≡ Empty → F Empty) → F x
by_cases Log F a b c = a refl
by_cases Lost F a b c = b refl
by_cases Empty F a b c = c refl

-- what a server tells is so
told_ok : {E : Type 0} (g : Group E) → Ok g → (q : Place) (v : ℕ) → (g.server q).promised < v → (g.server q).up ≡ true → JoinOk g.page g.committed (record { from = q; view = v; report = report_of (g.server q) })
told_ok g ok q v lt up =
    let s = g.server q in
    let h = ok.server q in
    record {
      formed = h.views.formed;
      earlier = lt_of_le_of_lt h.views.order lt;
      base_cp = by_cases s.held (λ x. by_held x s.base s.lb ≤ by_held x s.cp s.lb) (λ e. (h.logs.log e).base_cp) (λ _. le_refl _) (λ _. le_refl _);
      cp_top = by_cases s.held (λ x. by_held x s.cp s.lb ≤ by_held x (s.base + length s.items) s.lb) (λ e. (h.logs.log e).cp_top) (λ _. le_refl _) (λ _. le_refl _);
      latest = λ V f l i. h.views.into V f i;
      holds = λ e. subst (λ (x : Held). Holds (g.page s.accepted) q (by_held x (s.base + length s.items) s.lb)) (sym e) (h.logs.log e).holds;
      sure = by_cases s.held (λ x. Sure g.page g.committed s.accepted (by_held x s.cp s.lb)) (λ e. (h.logs.log e).sure) (λ _. h.logs.lb_sure) (λ _. sure_zero g.page g.committed s.accepted h.views.formed);
      promise = λ V f l e. (h.promise V f e).0 up;
    }

joiner : {E : Type 0} (g : Group E) → Ok g → (q : Place) (v : ℕ) (duty : Duty) → MayJoin g q (g.server q) v duty
    → ServerOk g.page (record { from = q; view = v; report = report_of (g.server q) } ∷ g.joins) g.committed (g.clock q) q (joined_server (g.server q) v duty)
joiner g ok q v duty m =
    let s = g.server q in
    let h = ok.server q in
    let below : (n : ℕ) → n ≤ s.promised → n ≤ v = λ n le. le_trans le (le_of_lt m.higher) in
    record {
      views = record {
        order = below _ h.views.order;
        formed = h.views.formed;
        promises = λ w f i. below _ (h.views.promises w f i);
        into = h.views.into;
        own = λ w f e. below _ (h.views.own w f e);
        joined = λ j i e. ⊎_elim (λ x. le_of_eq (sym (ap (λ (y : JoinMade). y.view) x))) (λ x. below _ (h.views.joined j x e)) i;
        ahead_of_leader = λ V w lt f f' e l p. h.views.ahead_of_leader V w lt f f' e l (le_trans (le_of_lt m.higher) p);
        ahead_of_partner = λ V w lt f f' e l p. h.views.ahead_of_partner V w lt f f' e l (le_trans (le_of_lt m.higher) p);
      };
      logs = record { log = h.logs.log; lb_sure = h.logs.lb_sure; saved = h.logs.saved; order = h.logs.order; empty = h.logs.empty; served = h.logs.served; saved_order = h.logs.saved_order };
      modes = record {
        active = λ a. absurd a;
        plan = λ a. absurd a;
        leads = λ e. cc;
        follows = λ e. cc;
        waits = λ e. cc;
        heard = λ x lb e. absurd (none_heard x lb e);
        joining = λ _. (lt_of_le_of_lt h.views.order m.higher, inl refl);
        pulls = λ e. cc;
      };
      duty = λ reports e. record {
        positive = lt_of_le_of_lt (zero-le) m.higher;
        own = (m.own reports e).0;
        unformed = ⊎_elim (λ (f : (g.page v).formed ≡ true). absurd (lt_irrefl v (lt_of_le_of_lt (h.views.own v f (m.own reports e).0) m.higher))) (λ f. f) (cases_Bool (g.page v).formed);
        joined = λ x t i. let same = (m.own reports e).1 x t i in inl (cc (same.0, same.1));
      };
      tells = λ _ j i e f l. ⊎_elim
          (λ x. subst (λ (y : JoinMade). (y.report.accepted ≡ s.accepted) × (y.report.top ≡ s.base + length s.items) × (y.report.base ≡ s.base) × (y.report.lb ≡ s.lb) × (y.report.cp ≡ s.cp)) x
          (refl, ap (λ (y : Held). by_held y (s.base + length s.items) s.lb) l, ap (λ (y : Held). by_held y s.base s.lb) l, ap (λ (y : Held). by_held y s.lb s.lb) l, ap (λ (y : Held). by_held y s.cp s.lb) l))
          (λ x. absurd (lt_irrefl v (lt_of_le_of_lt (subst (λ (n : ℕ). n ≤ s.promised) f (h.views.joined j x e)) m.higher))) i;
      chose = λ w plan e. absurd (m.none w plan e);
      outside = h.outside;
      promise = h.promise;
    }

pub join_kept : {E : Type 0} (g : Group E) → Ok g → (q : Place) (v : ℕ) (duty : Duty) → MayJoin g q (g.server q) v duty → Ok (joined g q v duty)
join_kept {E = E} g ok q v duty m =
    let j' : JoinMade = record { from = q; view = v; report = report_of (g.server q) } in
    let within : (n : ℕ) → (g.page n).formed ≡ true → (g.page n).plan.start ≤ length (g.page n).list = λ n f. (ok.page n f).start_within in
    let grows : Grows g.page g.page g.committed g.committed g.joins (j' ∷ g.joins) = record { each = λ n f. page_same (g.page n) f; longer = le_refl _; agree = λ k l. refl; more = λ j i. inr i } in
    record {
      server = each_other (λ x s. ServerOk g.page (j' ∷ g.joins) g.committed (g.clock x) x s) g.server q (joined_server (g.server q) v duty)
          (λ x ne. server_more grows x (g.server x) within (λ j i e. ⊎_elim (λ y. absurd (ne (sym e ∙ sym (ap (λ (z : JoinMade). z.from) y)))) (λ y. y) i) (ok.server x))
          (joiner g ok q v duty m);
      page = λ n f. page_grow grows n (ok.page n f);
      pair = ok.pair;
      join = λ j i. ⊎_elim (λ (e : j' ≡ j). subst (λ (y : JoinMade). JoinOk g.page g.committed y) e (told_ok g ok q v m.higher m.up)) (λ y. ok.join j y) i;
      packet = each_map _ _ (λ p. body_grow grows within p.from p.to p.body) g.packets ok.packet;
      first_view = ok.first_view;
      late = ok.late;
      committed = ok.committed;
    }
