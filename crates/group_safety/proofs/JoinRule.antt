-- Suspicion, invite, join and the choice keep the facts.
use Rattle.std.proofs.Common.{◌≡◌, ℕ, ◌+◌, ◌*◌, ◌/◌, ◌%◌, ◌<◌, ◌≤◌, true, [], Option, None, Some, refl, sym, subst, inl, arith, nat_lt, ◌==◌}
use Rattle.file_tree.specs.Book.{Entry}
use Rattle.group_rules.specs.Choose.{choose, greatest}
use Rattle.group_rules.specs.Effects.{report_of}
use Rattle.group_rules.specs.Form.{form_moves}
use Rattle.group_rules.specs.Joining.{chosen_moves, joined_tests, on_invite, on_join, suspect, to_each}
use Rattle.group_rules.specs.Limits.{limit}
use Rattle.group_rules.specs.Moves.{Choosing, Collecting, Joining, act, moved}
use Rattle.group_rules.specs.Places.{Zero, One, Two, Place, Trio, all_of, coordinator, get, next_view, nobody, other_storers, others, with_at}
use Rattle.group_rules.specs.State.{Chose, Collects, Duty, Form, Group, Invite, NoDuty, Plan, Report, Server}
use Rattle.group_safety.specs.Words.{In}
use Rattle.group_safety.proofs.Common.{each_with}
use Rattle.group_rules.proofs.Tests.{each_of, is_lt, is_eq'}
use Rattle.group_safety.proofs.Modes.{joining_is}
use Rattle.group_safety.proofs.Moving.{Good, its, Goes, goes_done, goes_more, goes_one, choosing, calling, joining}
use Rattle.group_safety.proofs.Choosing.{choose_may, choose_low}
use Rattle.group_safety.proofs.FormRule.{forms}
use Rattle.group_safety.proofs.Sends.{goes_each, goes_if, goes_send, goes_where, steady_each, steady_then}

-- invite
pub invited : (g : Group Entry) (q : Place) (s : Server Entry) → Good g q s → s.up ≡ true → (from : Place) (v : ℕ) → v / 3 ≤ limit → Goes g q s (on_invite s from v)
invited g q s h up from v le = goes_if g q s (nat_lt s.promised v) _ _
    (λ t. goes_more g q s (Joining v NoDuty) _ h (tt, tt, le, up)
    (joining h v NoDuty (record {
      up = up;
      higher = is_lt _ _ t;
      none = λ w p e. cc;
      own = λ reports e. cc;
    }))
    (λ k. goes_send _ q _ _ _ [] k (inl refl) (tt, tt, tt) goes_done))
    (λ _. goes_where g q s (all_of (joined_tests s v)) _ h (λ t.
    let a = each_of (joined_tests s v) t in
    goes_send g q s _ _ [] h (subst (λ (n : ℕ). In g.joins (record { from = q; view = n; report = s.report })) (sym (is_eq' v s.promised a.0)) ((its h).modes.joining (joining_is s.mode a.1.0)).1) (tt, tt, tt) goes_done))

-- the view that the chosen one starts from was formed
starts_formed : (g : Group Entry) (q : Place) (s : Server Entry) → Good g q s → (reports : Trio (Option Report)) → s.duty ≡ Collects reports → (plan : Plan) → choose reports ≡ Some plan → (g.page (greatest reports)).formed ≡ true
starts_formed g q s h reports e plan c =
    let m = choose_may g q s h reports e plan c in
    let j = h.ok.join _ (((its h).duty reports e).joined plan.source m.source m.source_told) in
    subst (λ (n : ℕ). (g.page n).formed ≡ true) m.source_from j.formed

-- join and the choice
pub told_join : (g : Group Entry) (q : Place) (s : Server Entry) → Good g q s → (from : Place) (v : ℕ) (t : Report) → In g.joins (record { from = from; view = v; report = t }) → (c : Duty) → s.duty ≡ c → Goes g q s (on_join q s from v t c)
told_join g q s h from v t j NoDuty e = goes_done h
told_join g q s h from v t j (Chose w plan) e = goes_done h
told_join g q s h from v t j (Collects reports) e = goes_where g q s (v == s.promised) _ h (λ x.
    let reports' = with_at reports from (Some t) in
    let known : (x : Place) (u : Report) → get reports' x ≡ Some u → In g.joins (record { from = x; view = s.promised; report = u }) =
    each_with (λ x o. (u : Report) → o ≡ Some u → In g.joins (record { from = x; view = s.promised; report = u })) reports from (Some t)
    (λ x. ((its h).duty reports e).joined x)
    (λ u y. let z : t ≡ u = cc in subst (λ (u : Report). In g.joins (record { from = from; view = s.promised; report = u })) z (subst (λ (n : ℕ). In g.joins (record { from = from; view = n; report = t })) (is_eq' v s.promised x) j)) in
    chosen reports' known (choose reports') refl)
  where
    chosen : (reports' : Trio (Option Report)) → ((x : Place) (u : Report) → get reports' x ≡ Some u → In g.joins (record { from = x; view = s.promised; report = u })) → (o : Option Plan) → choose reports' ≡ o → Goes g q s (chosen_moves q s reports' o)
    chosen reports' known None c = goes_one g q s _ h (tt, tt, tt, tt)
        (calling h reports reports' e known)
    chosen reports' known (Some plan) c = goes_more g q s (Collecting reports') _ h (
      tt,
      tt,
      tt,
      tt,
    ) (calling h reports reports' e known) (λ k.
        let g1 = moved g q s (Collecting reports') in
        let s1 = act q (g.clock q) s (Collecting reports') in
        goes_more g1 q s1 (Choosing plan (greatest reports')) _ k (
          ((its k).duty reports' refl).unformed,
          (((its k).duty reports' refl).unformed, choose_low g1 q s1 k reports' refl plan c),
          starts_formed g1 q s1 k reports' refl plan c,
          tt,
        )
        (choosing k reports' plan (greatest reports')
        (choose_may g1 q s1 k reports' refl plan c)) (λ k2.
        let s2 = act q (g.clock q) s1 (Choosing plan (greatest reports')) in
        steady_then q s2 (to_each (Form s.promised plan) (other_storers q plan.storers)) (form_moves q s2 plan)
        (steady_each q s2 (Form s.promised plan) (other_storers q plan.storers) (λ g' h' to. let x = (its h').chose s.promised plan refl in ((x.1, x.2), (tt, tt, tt))))
        _ k2 (λ g' h'. let x = (its h').chose s.promised plan refl in forms g' q s2 h' plan x.1 (sym x.2))))

-- suspicion
next_is : (q : Place) (promised : ℕ) → coordinator (next_view promised q) ≡ q
next_is Zero p = let e : (3 * (p / 3 + 1) + 0) % 3 ≡ 0 = omega arith in rw e
next_is One p = let e : (3 * (p / 3 + 1) + 1) % 3 ≡ 1 = omega arith in rw e
next_is Two p = let e : (3 * (p / 3 + 1) + 2) % 3 ≡ 2 = omega arith in rw e

next_count : (q : Place) (p : ℕ) → p / 3 < limit → next_view p q / 3 ≤ limit
next_count Zero p l = let e : (3 * (p / 3 + 1) + 0) / 3 ≡ p / 3 + 1 = omega arith in rw e (omega arith)
next_count One p l = let e : (3 * (p / 3 + 1) + 1) / 3 ≡ p / 3 + 1 = omega arith in rw e (omega arith)
next_count Two p l = let e : (3 * (p / 3 + 1) + 2) / 3 ≡ p / 3 + 1 = omega arith in rw e (omega arith)

no_told : (x : Place) (u : Report) → get nobody x ≡ Some u → ⊥
no_told Zero u e = cc
no_told One u e = cc
no_told Two u e = cc

pub suspects : (g : Group Entry) (q : Place) (s : Server Entry) → Good g q s → s.up ≡ true → Goes g q s (suspect q s)
suspects g q s h up = goes_where g q s (nat_lt (s.promised / 3) limit) _ h (λ t.
    let count : next_view s.promised q / 3 ≤ limit = next_count q s.promised (is_lt (s.promised / 3) limit t) in
    let v = next_view s.promised q in
    let own : Trio (Option Report) = with_at nobody q (Some (report_of s)) in
    goes_more g q s (Joining v (Collects own)) _ h (tt, tt, count, up)
    (joining h v (Collects own) (record {
      up = up;
      higher = omega arith;
      none = λ w p e. cc;
      own = λ reports e. (
        next_is q s.promised,
        let z : own ≡ reports = cc in subst (λ (t : Trio (Option Report)). (x : Place) (u : Report) → get t x ≡ Some u → (x ≡ q) × (u ≡ report_of s)) z
            (each_with (λ x o. (u : Report) → o ≡ Some u → (x ≡ q) × (u ≡ report_of s)) nobody q (Some (report_of s)) (λ x u e. absurd (no_told x u e)) (λ u e. (refl, cc))),
      );
    }))
    (λ k. goes_each _ q _ (Invite v) (others q) k (λ _ to. tt) (λ _. (tt, tt, count))))
