-- Opening, the base, and Formed keep the facts.
use Rattle.std.proofs.Common.{inl, inr, ⊎_elim, ◌≡◌, ℕ, ◌+◌, ◌≤◌, true, List, [], ◌∷◌, ◌++◌, Option, None, Some, min, refl, sym, ap, ◌∙◌, subst, arith, le_of_eq, nat_le}
use Rattle.file_tree.specs.Book.{Entry}
use Rattle.group_safety.proofs.May.{MayOpen}
use Rattle.group_rules.specs.Effects.{opening}
use Rattle.group_safety.specs.Facts.{Ok}
use Rattle.group_rules.specs.Moves.{Move, Opening, Sending, act, acts, moved, moved_by, raised_page}
use Rattle.group_rules.specs.Open.{and_then, base_tests, formed_tests, on_formed, open_heard, open_moves, open_tests, rebase, try_open}
use Rattle.group_rules.specs.Places.{One, Two, Place, S01, all_of, at, get, is_s01, leader, partner, put}
use Rattle.group_rules.specs.State.{Beat, Demote, Group, Page, Plan, Server, Waits, top}
use Rattle.group_safety.specs.Words.{IsActive}
use Rattle.group_rules.proofs.Tests.{by_if, one_of, each_of, is_le, is_lt, is_eq'}
use Rattle.group_safety.proofs.Common.{put_same as put_is}
use Rattle.group_safety.proofs.Accepting.{same_is}
use Rattle.group_safety.proofs.Opening.{open_kept}
use Rattle.group_safety.proofs.Modes.{joining_is, waits_is, open_is, s01_is}
use Rattle.group_safety.proofs.Quiet.{hear_kept, base_kept}
use Rattle.group_safety.proofs.Moving.{Good, its, Goes, goes_done, goes_more, goes_one, committing, merge, at_self}
use Rattle.group_safety.proofs.Bases.{lbs_of}
use Rattle.group_safety.proofs.Sends.{at_page, beat_goes, both, goes_next, goes_send, goes_where, its_low}

-- opening: the leader opens
open_goes : (g : Group Entry) (q : Place) (s : Server Entry) → Good g q s → s.mode ≡ Waits → q ≡ leader s.plan.storers → (lb : ℕ) → get s.heard (partner s.plan.storers) ≡ Some lb → s.plan.horizon + 50 ≤ g.clock q → Goes g q s (open_moves s lb)
open_goes g q s h w l lb e late =
    let active : IsActive s.mode = subst (λ z. IsActive z) (sym w) tt in
    let plan = at_page g q s h active in
    let fine = its h in
    let page = h.ok.page s.accepted fine.views.formed in
    let leads : q ≡ leader (g.page s.accepted).plan.storers = l ∙ ap (λ (p : Plan). leader p.storers) plan in
    let closed = fine.modes.waits w leads in
    let log = fine.logs.log (fine.modes.active active).0 in
    let top_is : top s ≡ (g.page s.accepted).plan.start = log.holds.all leads ∙ page.fresh closed in
    let p' = raised_page (g.page s.accepted) (g.page s.accepted).plan.start (g.page s.accepted).until in
    let s0 = opening s s.plan.start lb in
    let g0 = record g { server = at g.server q s0; page = put g.page s.accepted p' } in
    let opens : Ok g0 = subst (λ (n : ℕ). Ok (record g { server = at g.server q (opening s n lb); page = put g.page s.accepted p' })) (ap (λ (p : Plan). p.start) (sym plan))
    (subst (λ s. MayOpen g q s lb → Ok (record g { server = at g.server q (opening s (g.page s.accepted).plan.start lb); page = put g.page s.accepted (raised_page (g.page s.accepted) (g.page s.accepted).plan.start (g.page s.accepted).until) })) h.is (λ m. open_kept g h.ok q lb m)
    (record { waits = w; leads = leads; formed = e; late = subst (λ (p : Plan). p.horizon + 50 ≤ g.clock q) plan late })) in
    let commits = committing opens (at_self g.server q s0) (top s) (record { open' = refl; forward = log.cp_top; held_twice = subst (λ (p : Page _). top s ≤ p.held_twice) (sym (put_is g.page s.accepted p')) (le_of_eq top_is) }) in
    goes_more g q s (Opening lb) _ h (
      (w, leads),
      (λ p. (its_low h).heard (partner s.plan.storers) lb e
          (ap (λ (n : ℕ). (g.page n).plan.storers) (fine.modes.active active).1
          ∙ ap (λ (l : Plan). l.storers) (sym plan) ∙ p)),
      (w, (fine.modes.active active).0),
      active,
    ) (merge (moved g q s (Opening lb)) g.server q s0
    (act q (g.clock q) s (Opening lb)) commits) (λ k2.
    let g2 = moved g q s (Opening lb) in
    let s2 = act q (g.clock q) s (Opening lb) in
    by_if (λ ms. Goes g2 q s2 (ms ++ Sending (partner s.plan.storers) (Beat s.accepted (top s) s.base) ∷ [])) (is_s01 s.plan.storers) _ []
    (λ t. let x = (its k2).modes.leads refl in
    goes_send g2 q s2 Two (Demote s.accepted) _ k2 ((its k2).views.formed, x.1, ap (λ (p : Plan). p.storers) (sym ((its k2).modes.plan tt)) ∙ s01_is _ t) (tt, tt, tt)
    (λ k3. beat_goes (moved g2 q s2 (Sending Two (Demote s.accepted))) q s2 k3 refl (partner s.plan.storers)))
    (λ _. beat_goes g2 q s2 k2 refl (partner s.plan.storers)))

pub opens : (g : Group Entry) (q : Place) (s : Server Entry) → Good g q s → Goes g q s (try_open q (g.clock q) s)
opens g q s h = goes_where g q s (all_of (open_tests q s)) _ h (λ t.
    let a = each_of (open_tests q s) t in
    heard (get s.heard (partner s.plan.storers)) refl (waits_is s.mode a.0) (same_is _ _ a.1.0))
  where
    heard : (o : Option ℕ) → get s.heard (partner s.plan.storers) ≡ o → s.mode ≡ Waits → q ≡ leader s.plan.storers → Goes g q s (open_heard (g.clock q) s o)
    heard None e w l = goes_done h
    heard (Some lb) e w l = goes_where g q s (nat_le (s.plan.horizon + 50) (g.clock q)) _ h (λ t. open_goes g q s h w l lb e (is_le _ _ t))

-- base
pub rebases : (g : Group Entry) (q : Place) (s : Server Entry) → Good g q s → Goes g q s (rebase s)
rebases g q s h = goes_where g q s (all_of (base_tests s)) _ h (λ t.
    let a = each_of (base_tests s) t in
    let n = is_lt s.base (min s.lb s.told_lb) a.1.1.0 in
    goes_one g q s _ h (
      tt,
      both g q s h (open_is s.mode a.0) (s01_is _ a.1.0),
      ((its h).modes.active (subst (λ z. IsActive z) (sym (open_is s.mode a.0)) tt)).0,
      (subst (λ z. IsActive z) (sym (open_is s.mode a.0)) tt, omega arith),
    )
    (base_kept g h.ok q s h.is (min s.lb s.told_lb)
    (subst (λ z. IsActive z) (sym (open_is s.mode a.0)) tt) (omega arith) (omega arith)))

-- the clock stays
clock_stays : (q : Place) (ms : List (Move Entry)) (g : Group Entry) (s : Server Entry) → (moved_by g q s ms).clock q ≡ g.clock q
clock_stays q [] g s = refl
clock_stays q (m ∷ ms) g s = clock_stays q ms (moved g q s m) (act q (g.clock q) s m)

pub finishes : (g : Group Entry) (q : Place) (s : Server Entry) (ms : List (Move Entry)) → Goes g q s ms → Goes g q s (and_then q (g.clock q) s ms (try_open q (g.clock q)))
finishes g q s ms h = goes_next g q s ms (try_open q (g.clock q)) h (λ k. subst (λ (c : ℕ). Goes (moved_by g q s ms) q (acts q (g.clock q) s ms) (try_open q c (acts q (g.clock q) s ms))) (clock_stays q ms g s) (opens _ q _ k))

-- opening's Formed
pub formed_heard : (g : Group Entry) (q : Place) (s : Server Entry) → Good g q s → (from : Place) (v lb : ℕ) → (g.page v).formed ≡ true → from ≡ partner (g.page v).plan.storers → (g.page v).partner_in ≡ true → ((g.page v).plan.storers ≡ S01 → lb ≤ lbs_of g.server One) → Goes g q s (on_formed s from v lb)
formed_heard g q s h from v lb f x p l = goes_where g q s (all_of (formed_tests s v)) _ h (λ t.
    let e : v ≡ s.promised = is_eq' v s.promised (each_of (formed_tests s v) t).0 in
    let b = subst (λ (n : ℕ). ((g.page n).formed ≡ true) × (from ≡ partner (g.page n).plan.storers) × ((g.page n).partner_in ≡ true) × ((g.page n).plan.storers ≡ S01 → lb ≤ lbs_of g.server One)) e (f, x, p, l) in
    goes_one g q s _ h (
      tt,
      b.3,
      ⊎_elim (λ j. inl (joining_is s.mode j))
          (λ w. inr (waits_is s.mode w)) (one_of _ _ (each_of (formed_tests s v) t).1.0),
      tt,
    )
    (hear_kept g h.ok q s h.is from lb b.0 b.1 b.2))
