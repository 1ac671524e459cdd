-- The moves keep each base on the disks of both data servers.
use Rattle.std.proofs.Common.{◌≡◌, ℕ, ◌+◌, ◌<◌, ◌≤◌, ◌&&◌, Bool, true, false, List, [], ◌∷◌, ◌++◌, length, Option, None, Some, take, max, refl, sym, ap, ◌∙◌, subst, arith, le_trans, true≢false, ⊎_elim, le_refl, lt_irrefl, nat_lt}
use Rattle.std.specs.Prelude.{⊤}
use Rattle.group_safety.specs.Bases.{Bases, BasesAt, BasesBody}
use Rattle.group_rules.specs.Effects.{NewLog, booted, demoted_by, down, lengthened, load_tests, loaded, resting, saving}
use Rattle.group_safety.specs.Facts.{Ok}
use Rattle.group_rules.specs.Limits.{by_held, can_have, is_log, is_outside}
use Rattle.group_rules.specs.Moves.{Accepting, Appending, Applying, Basing, Booting, Choosing, Collecting, Committing, Demoting, Falling, Flushing, Hearing, Heeding, Joining, Move, Noting, Opening, Pulling, Reading, Saving, Saying, Sending, Staging, act, into_page, moved, new_page, raised_page}
use Rattle.group_rules.specs.Places.{Zero, One, Two, Place, S01, all_of, at, get, is_p2, partner, put}
use Rattle.group_rules.specs.State.{Ack, Beat, Demote, Empty, Event, Fetch, Form, Formed, Give, Group, Held, Invite, Join, JoinMade, Log, Lost, Mark, Message, Open, Packet, Page, Plan, Saved, Server, mark_of, top}
use Rattle.group_safety.specs.Words.{Each, In, IsActive, Under}
use Rattle.group_rules.proofs.Tests.{by_if, is_lt}
use Rattle.group_safety.proofs.Common.{each_other, each_with, none_heard, fitting_is}
use Rattle.group_safety.proofs.Grow.{puts, by_page, each_map}
use Rattle.group_safety.proofs.Quiet.{fine, log_is}
use Rattle.group_safety.proofs.Settled.{Stays, stays_same, stays_put, open_stays}

abbrev pub lbs_of : {E : Type 0} → (Place → Server E) → Place → ℕ
lbs_of f x = (f x).lb

Rises : (Place → ℕ) → (Place → ℕ) → Type 0
Rises a b = (a Zero ≤ b Zero) × (a One ≤ b One)

open_rises : (a b : Place → ℕ) → Rises a b → (a Zero ≤ b Zero) × (a One ≤ b One)
unfolding Rises
open_rises a b h = h

under_rises : (a b : Place → ℕ) → Rises a b → (n : ℕ) → Under a n → Under b n
under_rises a b h n u = let r = open_rises a b h in (le_trans u.0 r.0, le_trans u.1 r.1)

-- one server's LB rises, or it is server 2
rises : {E : Type 0} (f : Place → Server E) (q : Place) (s s' : Server E) → f q ≡ s → (is_p2 q ≡ false → s.lb ≤ s'.lb) → Rises (lbs_of f) (lbs_of (at f q s'))
unfolding Rises
rises f Zero s s' e h = (subst (λ (x : Server _). x.lb ≤ s'.lb) (sym e) (h refl), le_refl _)
rises f One s s' e h = (le_refl _, subst (λ (x : Server _). x.lb ≤ s'.lb) (sym e) (h refl))
rises f Two s s' e h = (le_refl _, le_refl _)

at_rises : {E : Type 0} (a b : Place → ℕ) (page page' : ℕ → Page E) (s : Server E) → Rises a b → Stays page page' → ((x : Place) (lb : ℕ) → get s.heard x ≡ Some lb → (page s.promised).formed ≡ true) → BasesAt a page s → BasesAt b page' s
at_rises a b page page' s r st f h = record {
  log = λ l. under_rises a b r _ (h.log l);
  saved = λ v e. under_rises a b r _ (h.saved v e);
  acked = λ o p. le_trans (h.acked o p) (open_rises a b r).1;
  heard = λ x lb e p. le_trans (h.heard x lb e (ap (λ (l : Plan). l.storers) (sym (open_stays page page' st s.promised (f x lb e)).1) ∙ p)) (open_rises a b r).1;
}

body_rises : {E : Type 0} (a b : Place → ℕ) (page page' : ℕ → Page E) → Rises a b → Stays page page' → (m : Message E) → BasesBody a page m → BasesBody b page' m
body_rises a b page page' r st (Event v index cp base e) h = under_rises a b r base h
body_rises a b page page' r st (Beat v cp base) h = under_rises a b r base h
body_rises a b page page' r st (Ack v t lb until) h = let x = open_stays page page' st v h.0 in (x.0, λ p. le_trans (h.1 (ap (λ (l : Plan). l.storers) (sym x.1) ∙ p)) (open_rises a b r).1)
body_rises a b page page' r st (Formed v lb) h = let x = open_stays page page' st v h.0 in (x.0, λ p. le_trans (h.1 (ap (λ (l : Plan). l.storers) (sym x.1) ∙ p)) (open_rises a b r).1)
body_rises a b page page' r st (Invite v) h = tt
body_rises a b page page' r st (Join v t) h = tt
body_rises a b page page' r st (Form v p) h = tt
body_rises a b page page' r st (Fetch v n) h = tt
body_rises a b page page' r st (Give v n es) h = tt
body_rises a b page page' r st (Demote v) h = tt

-- what each move asks beside
abbrev pub BasesMay : {E : Type 0} → Group E → Place → Server E → Move E → Type 0
BasesMay g q s (Joining v duty) = ⊤
BasesMay g q s (Collecting reports) = ⊤
BasesMay g q s (Choosing plan from) = ((g.page s.promised).formed ≡ false) × Under (lbs_of g.server) plan.base
BasesMay g q s (Pulling plan first) = ⊤
BasesMay g q s (Staging items) = ⊤
BasesMay g q s (Hearing x lb) = (g.page s.promised).plan.storers ≡ S01 → lb ≤ lbs_of g.server One
BasesMay g q s (Accepting plan role n) = ((g.page s.promised).formed ≡ true) × Under (lbs_of g.server) n.base × (is_p2 q ≡ false → s.lb ≤ n.lb)
BasesMay g q s (Opening lb) = s.plan.storers ≡ S01 → lb ≤ lbs_of g.server One
BasesMay g q s (Heeding items cp base) = Under (lbs_of g.server) base
BasesMay g q s (Appending e) = ⊤
BasesMay g q s (Noting top lb until) = s.plan.storers ≡ S01 → lb ≤ lbs_of g.server One
BasesMay g q s (Committing n) = ⊤
BasesMay g q s (Basing n) = Under (lbs_of g.server) n
BasesMay g q s (Applying n) = ⊤
BasesMay g q s Flushing = s.lb ≤ s.ap
BasesMay g q s (Demoting v) = (q ≡ Two) × (s.accepted < v)
BasesMay g q s Saving = ⊤
BasesMay g q s Falling = ⊤
BasesMay g q s (Booting d) = ⊤
BasesMay g q s (Reading n e) = ⊤
BasesMay g q s (Saying say) = ⊤
BasesMay g q s (Sending to m) = BasesBody (lbs_of g.server) g.page m

-- one server and the pages change
pub record Parts {E : Type 0} (g : Group E) (servers : Place → Server E) (page' : ℕ → Page E) : Type 0 where
  pub server : (x : Place) → BasesAt (lbs_of servers) page' (servers x)
  pub page : (w : ℕ) → (page' w).formed ≡ true → Under (lbs_of servers) (page' w).plan.base
  pub join : (j : JoinMade) → In g.joins j → j.report.held ≡ Log → Under (lbs_of servers) j.report.base
  pub packet : Each (λ (p : Packet E). BasesBody (lbs_of servers) page' p.body) g.packets

parts : {E : Type 0} (g : Group E) → Ok g → Bases g → (q : Place) (s s' : Server E) → g.server q ≡ s → (is_p2 q ≡ false → s.lb ≤ s'.lb) → (page' : ℕ → Page E) → Stays g.page page'
    → ((w : ℕ) → (page' w).formed ≡ true → Under (lbs_of g.server) (page' w).plan.base)
    → (BasesAt (lbs_of (at g.server q s')) page' s → BasesAt (lbs_of (at g.server q s')) page' s') → Parts g (at g.server q s') page'
parts g ok low q s s' e up page' st pages new =
    let a = lbs_of g.server in
    let b = lbs_of (at g.server q s') in
    let r = rises g.server q s s' e up in
    let old : (x : Place) → BasesAt b page' (g.server x) = λ x. at_rises a b g.page page' (g.server x) r st (λ z lb y. ((ok.server x).modes.heard z lb y).0) (low.server x) in
    record {
      server = each_other (λ x s. BasesAt b page' s) g.server q s' (λ x ne. old x) (new (subst (λ s. BasesAt b page' s) e (old q)));
      page = λ w f. under_rises a b r _ (pages w f);
      join = λ j i l. under_rises a b r _ (low.join j i l);
      packet = each_map _ _ (λ p. body_rises a b g.page page' r st p.body) g.packets low.packet;
    }

pages_put : {E : Type 0} (g : Group E) → Bases g → (w : ℕ) (p : Page E) → (p.formed ≡ true → Under (lbs_of g.server) p.plan.base) → (v : ℕ) → (put g.page w p v).formed ≡ true → Under (lbs_of g.server) (put g.page w p v).plan.base
pages_put g low w p h v = by_page w (puts w g.page p) (λ v r. r.formed ≡ true → Under (lbs_of g.server) r.plan.base) h v (low.page v)

-- a group whose Low facts are these
whole : {E : Type 0} (g g' : Group E) → Parts g g'.server g'.page → g'.joins ≡ g.joins → g'.packets ≡ g.packets → Bases g'
whole g g' p j k = record {
  server = p.server;
  page = p.page;
  join = λ x i l. p.join x (subst (λ (js : List JoinMade). In js x) j i) l;
  packet = subst (λ (ps : List (Packet _)). Each (λ (x : Packet _). BasesBody (lbs_of g'.server) g'.page x.body) ps) (sym k) p.packet;
}

rest_low : {E : Type 0} (b : Place → ℕ) (page : ℕ → Page E) (c d : ℕ) (m : Mark E) (held : Held) (n : NewLog E) → (held ≡ Log → Under b n.base) → ((v : Saved E) → m.saved ≡ Some v → Under b v.base) → BasesAt b page (resting c d m held n)
rest_low b page c d m held n log saved = record { log = log; saved = saved; acked = λ o. cc; heard = λ x lb e. absurd (none_heard x lb e) }

booted_low : {E : Type 0} (b : Place → ℕ) (page : ℕ → Page E) (q : Place) (c d : ℕ) (s : Server E) → BasesAt b page s → BasesAt b page (booted q c d (mark_of s))
booted_low b page q c d s h = by_if (λ (x : Server _). BasesAt b page x) (is_p2 q && is_outside s.role) _ _
    (λ _. rest_low b page c d (lengthened d (mark_of s)) Empty _ (λ x. cc) h.saved)
    (λ _. loads s.saved refl)
  where
    loads : (o : Option (Saved _)) → s.saved ≡ o → BasesAt b page (loaded q c d (lengthened d (mark_of s)) o)
    loads None e = rest_low b page c d (lengthened d (mark_of s)) Lost _ (λ x. cc) h.saved
    loads (Some v) e = by_if (λ (x : Server _). BasesAt b page x) (all_of (can_have q s.role ∷ load_tests s.lb v)) _ _
        (λ _. rest_low b page c d (lengthened d (mark_of s)) Log _ (λ _. h.saved v e) h.saved)
        (λ _. rest_low b page c d (lengthened d (mark_of s)) Lost _ (λ x. cc) h.saved)

booted_lb : {E : Type 0} (q : Place) (c d : ℕ) (s : Server E) → is_p2 q ≡ false → s.lb ≤ (booted q c d (mark_of s)).lb
booted_lb q c d s p = by_if (λ (x : Server _). s.lb ≤ x.lb) (is_p2 q && is_outside s.role) _ _ (λ _. le_refl _) (λ _. loads s.saved)
  where
    loads : (o : Option (Saved _)) → s.lb ≤ (loaded q c d (lengthened d (mark_of s)) o).lb
    loads None = le_refl _
    loads (Some v) = by_if (λ (x : Server _). s.lb ≤ x.lb) (all_of (can_have q s.role ∷ load_tests s.lb v)) _ _
        (λ _. by_if (λ (n : ℕ). s.lb ≤ n) (is_p2 q) v.base s.lb (λ t. absurd (true≢false (sym t ∙ p))) (λ _. le_refl _))
        (λ _. le_refl _)

saving_low : {E : Type 0} (b : Place → ℕ) (page : ℕ → Page E) (q : Place) (s : Server E) (o : Option (Saved E)) → BasesAt b page s → BasesAt b page (down (mark_of (saving q s o)))
saving_low b page q s (Some v) h = record { log = λ l. cc; saved = h.saved; acked = λ o. cc; heard = λ x lb e. absurd (none_heard x lb e) }
saving_low b page q s None h = by_if (λ (x : Server _). BasesAt b page (down (mark_of x))) (is_log s.held) _ _
    (λ t. record { log = λ l. cc; saved = λ v e. let x : record { base = s.base; cp = s.cp; items = s.items } ≡ v = cc in subst (λ (v : Saved _). Under b v.base) x (h.log (log_is s.held t)); acked = λ o. cc; heard = λ x lb e. absurd (none_heard x lb e) })
    (λ _. record { log = λ l. cc; saved = h.saved; acked = λ o. cc; heard = λ x lb e. absurd (none_heard x lb e) })

saving_lb : {E : Type 0} (q : Place) (s : Server E) (o : Option (Saved E)) → (s.held ≡ Log → s.lb ≤ s.ap) → is_p2 q ≡ false → s.lb ≤ (down (mark_of (saving q s o))).lb
saving_lb q s (Some v) h p = le_refl _
saving_lb q s None h p = by_if (λ (x : Server _). s.lb ≤ (down (mark_of x)).lb) (is_log s.held) _ _
    (λ t. by_if (λ (n : ℕ). s.lb ≤ n) (is_p2 q) s.lb s.ap (λ _. le_refl _) (λ _. h (log_is s.held t)))
    (λ _. le_refl _)

demoted_low : {E : Type 0} (lbs : Place → ℕ) (page : ℕ → Page E) (s : Server E) (v : ℕ) (b : Bool) → (s.mode ≡ Open → b ≡ true → ⊥) → BasesAt lbs page s → BasesAt lbs page (demoted_by b s v)
demoted_low lbs page s v true idle h = record { log = λ l. cc; saved = λ u x. cc; acked = λ o. absurd (idle o refl); heard = h.heard }
demoted_low lbs page s v false idle h = record { log = λ l. cc; saved = λ u x. cc; acked = λ o. cc; heard = λ x lb e. absurd (none_heard x lb e) }

pub bases_moved : {E : Type 0} (g : Group E) → Ok g → Bases g → (q : Place) (s : Server E) → g.server q ≡ s → (m : Move E) → BasesMay g q s m → Bases (moved g q s m)
bases_moved g ok low q s e (Joining v duty) may =
    let p = parts g ok low q s (act q (g.clock q) s (Joining v duty)) e (λ _. le_refl _) g.page (stays_same g.page) low.page (λ h. record { log = h.log; saved = h.saved; acked = λ o. cc; heard = λ x lb e. absurd (none_heard x lb e) }) in
    record {
      server = p.server;
      page = p.page;
      packet = p.packet;
      join = λ j i l. ⊎_elim
          (λ x. subst (λ (y : JoinMade). y.report.held ≡ Log → Under (lbs_of (at g.server q (act q (g.clock q) s (Joining v duty)))) y.report.base) x
          (λ l. subst (λ (y : Held). Under (lbs_of (at g.server q (act q (g.clock q) s (Joining v duty)))) (by_held y s.base s.lb)) (sym l) (own p l)) l)
          (λ x. p.join j x l) i;
    }
  where
    own : Parts g (at g.server q (act q (g.clock q) s (Joining v duty))) g.page → s.held ≡ Log → Under (lbs_of (at g.server q (act q (g.clock q) s (Joining v duty)))) s.base
    own p l = under_rises (lbs_of g.server) _ (rises g.server q s (act q (g.clock q) s (Joining v duty)) e (λ _. le_refl _)) s.base (subst (λ s. s.held ≡ Log → Under (lbs_of g.server) s.base) e (low.server q).log l)
bases_moved g ok low q s e (Collecting reports) may = whole g (moved g q s (Collecting reports)) (parts g ok low q s _ e (λ _. le_refl _) g.page (stays_same g.page) low.page (λ h. record { log = h.log; saved = h.saved; acked = h.acked; heard = h.heard })) refl refl
bases_moved g ok low q s e (Choosing plan from) may = whole g (moved g q s (Choosing plan from)) (parts g ok low q s _ e (λ _. le_refl _) (put g.page s.promised (new_page plan from (take plan.start (g.page from).list)))
    (stays_put g.page s.promised _ (λ f. absurd (true≢false (sym f ∙ may.0)))) (pages_put g low s.promised _ (λ _. may.1)) (λ h. record { log = h.log; saved = h.saved; acked = h.acked; heard = h.heard })) refl refl
bases_moved g ok low q s e (Pulling plan first) may = whole g (moved g q s (Pulling plan first)) (parts g ok low q s _ e (λ _. le_refl _) g.page (stays_same g.page) low.page (λ h. record { log = h.log; saved = h.saved; acked = λ o. cc; heard = h.heard })) refl refl
bases_moved g ok low q s e (Staging items) may = whole g (moved g q s (Staging items)) (parts g ok low q s _ e (λ _. le_refl _) g.page (stays_same g.page) low.page (λ h. record { log = h.log; saved = h.saved; acked = h.acked; heard = h.heard })) refl refl
bases_moved g ok low q s e (Hearing from lb) may =
    let r = rises g.server q s (act q (g.clock q) s (Hearing from lb)) e (λ _. le_refl _) in
    whole g (moved g q s (Hearing from lb)) (parts g ok low q s _ e (λ _. le_refl _) g.page (stays_same g.page) low.page (λ h. record {
      log = h.log;
      saved = h.saved;
      acked = h.acked;
      heard = each_with (λ y o. (n : ℕ) → o ≡ Some n → (g.page s.promised).plan.storers ≡ S01 → n ≤ lbs_of (at g.server q (act q (g.clock q) s (Hearing from lb))) One) s.heard from (Some lb) h.heard
          (λ n x p. let y : lb ≡ n = cc in subst (λ (n : ℕ). n ≤ lbs_of (at g.server q (act q (g.clock q) s (Hearing from lb))) One) y (le_trans (may p) (open_rises _ _ r).1));
    })) refl refl
bases_moved g ok low q s e (Accepting plan role n) may =
    let s' = act q (g.clock q) s (Accepting plan role n) in
    let r = rises g.server q s s' e may.2 in
    whole g (moved g q s (Accepting plan role n)) (parts g ok low q s s' e may.2 (put g.page s.promised (into_page (g.page s.promised) q)) (stays_put g.page s.promised _ (λ f. (f, refl, λ o. o))) (pages_put g low s.promised _ (λ f. low.page s.promised f))
    (λ h. record { log = λ l. under_rises _ _ r n.base may.1; saved = λ v x. cc; acked = λ o. cc; heard = λ x lb y. h.heard (partner plan.storers) lb (fitting_is plan (get s.heard (partner plan.storers)) x lb y).1 })) refl refl
bases_moved g ok low q s e (Opening lb) may =
    let s' = act q (g.clock q) s (Opening lb) in
    let r = rises g.server q s s' e (λ _. le_refl _) in
    whole g (moved g q s (Opening lb)) (parts g ok low q s s' e (λ _. le_refl _) (put g.page s.accepted (raised_page (g.page s.accepted) (g.page s.accepted).plan.start (g.page s.accepted).until)) (stays_put g.page s.accepted _ (λ f. (f, refl, λ o. absurd (true≢false o)))) (pages_put g low s.accepted _ (λ f. low.page s.accepted f))
    (λ h. record { log = h.log; saved = h.saved; acked = λ o p. le_trans (may p) (open_rises _ _ r).1; heard = λ x lb e. absurd (none_heard x lb e) })) refl refl
bases_moved g ok low q s e (Heeding items cp base) may =
    let s' = act q (g.clock q) s (Heeding items cp base) in
    let r = rises g.server q s s' e (λ _. le_refl _) in
    let u = under_rises _ _ r base may in
    whole g (moved g q s (Heeding items cp base)) (parts g ok low q s s' e (λ _. le_refl _) (put g.page s.accepted (raised_page (g.page s.accepted) (max (g.page s.accepted).held_twice (s.base + length items)) (max (g.page s.accepted).until (g.clock q + s.delta)))) (stays_put g.page s.accepted _ (λ f. (f, refl, λ o. absurd (true≢false o)))) (pages_put g low s.accepted _ (λ f. low.page s.accepted f))
    (λ h. record { log = λ l. let y = h.log l in (max_le s.base base _ y.0 u.0, max_le s.base base _ y.1 u.1); saved = h.saved; acked = λ o. cc; heard = λ x lb e. absurd (none_heard x lb e) })) refl refl
  where
    max_le : (a b n : ℕ) → a ≤ n → b ≤ n → max a b ≤ n
    max_le a b n x y = omega arith
bases_moved g ok low q s e (Appending x) may = whole g (moved g q s (Appending x)) (parts g ok low q s _ e (λ _. le_refl _) (put g.page s.accepted (record (g.page s.accepted) { list = (g.page s.accepted).list ++ x ∷ [] })) (stays_put g.page s.accepted _ (λ f. (f, refl, λ o. o))) (pages_put g low s.accepted _ (λ f. low.page s.accepted f))
    (λ h. record { log = h.log; saved = h.saved; acked = h.acked; heard = h.heard })) refl refl
bases_moved g ok low q s e (Noting t lb until) may =
    let s' = act q (g.clock q) s (Noting t lb until) in
    let r = rises g.server q s s' e (λ _. le_refl _) in
    whole g (moved g q s (Noting t lb until)) (parts g ok low q s s' e (λ _. le_refl _) g.page (stays_same g.page) low.page
    (λ h. record { log = h.log; saved = h.saved; acked = λ o p. (let a = h.acked o p in let b = le_trans (may p) (open_rises _ _ r).1 in omega arith); heard = h.heard })) refl refl
bases_moved g ok low q s e (Committing n) may = whole g (moved g q s (Committing n)) (parts g ok low q s _ e (λ _. le_refl _) g.page (stays_same g.page) low.page (λ h. record { log = h.log; saved = h.saved; acked = h.acked; heard = h.heard })) refl refl
bases_moved g ok low q s e (Basing n) may =
    let s' = act q (g.clock q) s (Basing n) in
    let r = rises g.server q s s' e (λ _. le_refl _) in
    whole g (moved g q s (Basing n)) (parts g ok low q s s' e (λ _. le_refl _) g.page (stays_same g.page) low.page (λ h. record { log = λ l. under_rises _ _ r n may; saved = h.saved; acked = h.acked; heard = h.heard })) refl refl
bases_moved g ok low q s e (Applying n) may = whole g (moved g q s (Applying n)) (parts g ok low q s _ e (λ _. le_refl _) g.page (stays_same g.page) low.page (λ h. record { log = h.log; saved = h.saved; acked = h.acked; heard = h.heard })) refl refl
bases_moved g ok low q s e Flushing may = whole g (moved g q s Flushing) (parts g ok low q s _ e (λ _. may) g.page (stays_same g.page) low.page (λ h. record { log = h.log; saved = h.saved; acked = h.acked; heard = h.heard })) refl refl
bases_moved g ok low q s e (Demoting v) may =
    let m = (fine g ok q s e).modes in
    whole g (moved g q s (Demoting v)) (parts g ok low q s _ e (λ f. absurd (true≢false (sym (ap is_p2 may.0) ∙ f))) g.page (stays_same g.page) low.page
    (demoted_low _ g.page s v (nat_lt v s.promised) (λ o t.
    let a = (m.active (subst (λ z. IsActive z) (sym o) tt)).1 in
    let b = is_lt v s.promised t in
    let c = may.1 in
    lt_irrefl v (omega arith)))) refl refl
bases_moved g ok low q s e Saving may = whole g (moved g q s Saving) (parts g ok low q s _ e (saving_lb q s s.saved (λ l. ((fine g ok q s e).logs.order l).1)) g.page (stays_same g.page) low.page (saving_low _ g.page q s s.saved)) refl refl
bases_moved g ok low q s e Falling may = whole g (moved g q s Falling) (parts g ok low q s _ e (λ _. le_refl _) g.page (stays_same g.page) low.page (λ h. record { log = λ l. cc; saved = h.saved; acked = λ o. cc; heard = λ x lb e. absurd (none_heard x lb e) })) refl refl
bases_moved g ok low q s e (Booting d) may = whole g (moved g q s (Booting d)) (parts g ok low q s _ e (booted_lb q (g.clock q) d s) g.page (stays_same g.page) low.page (booted_low _ g.page q (g.clock q) d s)) refl refl
bases_moved g ok low q s e (Reading n x) may = whole g (moved g q s (Reading n x)) (parts g ok low q s s e (λ _. le_refl _) g.page (stays_same g.page) low.page (λ h. h)) refl refl
bases_moved g ok low q s e (Saying say) may = whole g (moved g q s (Saying say)) (parts g ok low q s s e (λ _. le_refl _) g.page (stays_same g.page) low.page (λ h. h)) refl refl
bases_moved g ok low q s e (Sending to m) may =
    let p = parts g ok low q s s e (λ _. le_refl _) g.page (stays_same g.page) low.page (λ h. h) in
    record { server = p.server; page = p.page; join = p.join; packet = (body_rises (lbs_of g.server) _ g.page g.page (rises g.server q s s e (λ _. le_refl _)) (stays_same g.page) m may, p.packet) }
