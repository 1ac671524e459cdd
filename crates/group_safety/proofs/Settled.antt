-- The moves keep what is said of settled servers and the book's length.
use Rattle.std.proofs.Common.{◌≡◌, ℕ, ◌+◌, ◌<◌, ◌≤◌, Bool, true, false, List, [], ◌∷◌, ◌++◌, length, Option, None, Some, take, max, min, refl, sym, ap, ◌∙◌, subst, inl, inr, arith, le_trans, true≢false, ⊎_elim, lt_irrefl, le_of_eq, le_refl, nat_lt, ◌&&◌}
use Rattle.std.specs.Prelude.{⊤, ◌⊎◌, if◌then◌else◌}
use Rattle.std.proofs.lemmas.Bool.{cases_order}
use Rattle.group_rules.specs.Effects.{booted, demoted_by, lengthened, load_tests, loaded}
use Rattle.group_safety.specs.Facts.{Ok, PairOk}
use Rattle.group_rules.specs.Limits.{can_have, is_log, is_outside}
use Rattle.group_rules.specs.Moves.{Accepting, Appending, Applying, Basing, Booting, Choosing, Collecting, Committing, Demoting, Falling, Flushing, Hearing, Heeding, Joining, Move, Noting, Opening, Pulling, Reading, Saving, Saying, Sending, Staging, act, entered, into_page, moved, new_page, raised_page}
use Rattle.group_rules.specs.Places.{Place, all_of, at, is_p2, leader, put}
use Rattle.group_safety.specs.Settled.{Settled, SettledAt, SettledBody}
use Rattle.group_rules.specs.State.{Ack, Beat, Demote, Event, Fetch, Form, Formed, Give, Group, Invite, Join, Live, Mark, Message, Mode, Open, Packet, Page, Plan, Rests, Saved, Server, Waits, mark_of, top}
use Rattle.group_safety.specs.Words.{Each, IsActive}
use Rattle.group_rules.proofs.Tests.{by_if, is_lt}
use Rattle.group_safety.proofs.Common.{each_other}
use Rattle.group_safety.proofs.Grow.{puts, by_page, each_map}
use Rattle.group_safety.proofs.Committing.{entered_length}
use Rattle.group_safety.proofs.Quiet.{fine}

-- what stays of the pages
pub Stays : {E : Type 0} → (ℕ → Page E) → (ℕ → Page E) → Type 0
Stays page page' = (v : ℕ) → (page v).formed ≡ true → ((page' v).formed ≡ true) × ((page' v).plan ≡ (page v).plan) × ((page' v).opened ≡ false → (page v).opened ≡ false)

pub stays_same : {E : Type 0} (page : ℕ → Page E) → Stays page page
unfolding Stays
stays_same page v f = (f, refl, λ o. o)

pub stays_put : {E : Type 0} (page : ℕ → Page E) (w : ℕ) (p : Page E) → ((page w).formed ≡ true → (p.formed ≡ true) × (p.plan ≡ (page w).plan) × (p.opened ≡ false → (page w).opened ≡ false)) → Stays page (put page w p)
unfolding Stays
stays_put page w p h v f = by_page w (puts w page p) (λ v r. (page v).formed ≡ true → (r.formed ≡ true) × (r.plan ≡ (page v).plan) × (r.opened ≡ false → (page v).opened ≡ false)) h v (λ f. (f, refl, λ o. o)) f

pub open_stays : {E : Type 0} (page page' : ℕ → Page E) → Stays page page' → (v : ℕ) → (page v).formed ≡ true → ((page' v).formed ≡ true) × ((page' v).plan ≡ (page v).plan) × ((page' v).opened ≡ false → (page v).opened ≡ false)
unfolding Stays
open_stays page page' h = h

more_stays : {E : Type 0} (page page' : ℕ → Page E) (committed : List E) (s : Server E) → Stays page page' → (page s.accepted).formed ≡ true → SettledAt page committed s → SettledAt page' committed s
more_stays page page' committed s st f h = record {
  settled = λ m. subst (λ (p : Plan). p.start ≤ s.cp) (sym (open_stays page page' st s.accepted f).1) (h.settled m);
  count = λ m later. h.count m (λ W lt f. (open_stays page page' st W f).2 (later W lt (open_stays page page' st W f).0));
}

body_stays : {E : Type 0} (page page' : ℕ → Page E) → Stays page page' → (m : Message E) → SettledBody page m → SettledBody page' m
body_stays page page' st (Event v index cp base e) h = ((open_stays page page' st v h.0).0, subst (λ (p : Plan). p.start ≤ cp) (sym (open_stays page page' st v h.0).1) h.1)
body_stays page page' st (Beat v cp base) h = ((open_stays page page' st v h.0).0, subst (λ (p : Plan). p.start ≤ cp) (sym (open_stays page page' st v h.0).1) h.1)
body_stays page page' st (Invite v) h = tt
body_stays page page' st (Join v t) h = tt
body_stays page page' st (Form v p) h = tt
body_stays page page' st (Fetch v n) h = tt
body_stays page page' st (Give v n es) h = tt
body_stays page page' st (Formed v lb) h = tt
body_stays page page' st (Ack v t lb until) h = tt
body_stays page page' st (Demote v) h = tt

-- what each move asks beside
abbrev pub SettledMay : {E : Type 0} → Group E → Place → Server E → Move E → Type 0
SettledMay g q s (Joining v duty) = ⊤
SettledMay g q s (Collecting reports) = ⊤
SettledMay g q s (Choosing plan from) = (g.page s.promised).formed ≡ false
SettledMay g q s (Pulling plan first) = ⊤
SettledMay g q s (Staging items) = ⊤
SettledMay g q s (Hearing x lb) = ⊤
SettledMay g q s (Accepting plan role n) = is_p2 q ≡ false → (n.lb ≡ s.lb) × (n.ap ≡ (if is_log s.held then s.ap else s.lb))
SettledMay g q s (Opening lb) = (s.mode ≡ Waits) × (q ≡ leader (g.page s.accepted).plan.storers)
SettledMay g q s (Heeding items cp base) = ((g.page s.accepted).plan.start ≤ cp) × IsActive s.mode × (length s.items ≤ length items)
SettledMay g q s (Appending e) = ⊤
SettledMay g q s (Noting top lb until) = ⊤
SettledMay g q s (Committing n) = (s.mode ≡ Open) × (s.cp ≤ n) × (n ≤ (g.page s.accepted).held_twice)
SettledMay g q s (Basing n) = ⊤
SettledMay g q s (Applying n) = ((s.mode ≡ Open) ⊎ (s.mode ≡ Live)) × (s.ap ≤ n)
SettledMay g q s Flushing = ⊤
SettledMay g q s (Demoting v) = s.accepted < v
SettledMay g q s Saving = ⊤
SettledMay g q s Falling = ⊤
SettledMay g q s (Booting d) = ⊤
SettledMay g q s (Reading n e) = ⊤
SettledMay g q s (Saying say) = ⊤
SettledMay g q s (Sending to m) = SettledBody g.page m

servers_quiet : {E : Type 0} (g : Group E) → Ok g → Settled g → (q : Place) (s' : Server E) (page' : ℕ → Page E) → Stays g.page page' → SettledAt page' g.committed s' → (x : Place) → SettledAt page' g.committed (at g.server q s' x)
servers_quiet g ok more q s' page' st new = each_other (λ x s. SettledAt page' g.committed s) g.server q s' (λ x ne. more_stays g.page page' g.committed (g.server x) st (ok.server x).views.formed (more.server x)) new

packets_quiet : {E : Type 0} (g : Group E) → Settled g → (page' : ℕ → Page E) → Stays g.page page' → Each (λ (p : Packet E). SettledBody page' p.body) g.packets
packets_quiet g more page' st = each_map _ _ (λ p. body_stays g.page page' st p.body) g.packets more.packet

its_more : {E : Type 0} (g : Group E) → Settled g → (q : Place) (s : Server E) → g.server q ≡ s → SettledAt g.page g.committed s
its_more g more q s e = subst (λ s. SettledAt g.page g.committed s) e (more.server q)

-- a move that leaves the server's mode, view and CP
same_kept : {E : Type 0} (g : Group E) → Ok g → Settled g → (q : Place) (s : Server E) → g.server q ≡ s → (s' : Server E) → s'.mode ≡ s.mode → s'.accepted ≡ s.accepted → s'.cp ≡ s.cp → (x : Place) → SettledAt g.page g.committed (at g.server q s' x)
same_kept g ok more q s e s' em ea ec = servers_quiet g ok more q s' g.page (stays_same g.page)
    (let h = its_more g more q s e in record {
      settled = λ m. rw (ea, ec) (h.settled (⊎_elim (λ y. inl (sym em ∙ y)) (λ y. inr (sym em ∙ y)) m));
      count = λ m later. ec ∙ h.count (sym em ∙ m) (λ W lt. later W (subst (λ (n : ℕ). n < W) (sym ea) lt));
    })

-- a server that is neither open nor live
idle_at : {E : Type 0} (page : ℕ → Page E) (committed : List E) (s : Server E) → (s.mode ≡ Open → ⊥) → (s.mode ≡ Live → ⊥) → SettledAt page committed s
idle_at page committed s o l = record { settled = λ m. absurd (⊎_elim o l m); count = λ m. absurd (o m) }

booted_rests : {E : Type 0} (q : Place) (c d : ℕ) (m : Mark E) → (booted q c d m).mode ≡ Rests
booted_rests q c d m = by_if (λ (s : Server _). s.mode ≡ Rests) (is_p2 q && is_outside m.role) _ _ (λ _. refl) (λ _. loads m.saved)
  where
    loads : (o : Option (Saved _)) → (loaded q c d (lengthened d m) o).mode ≡ Rests
    loads None = refl
    loads (Some v) = by_if (λ (s : Server _). s.mode ≡ Rests) (all_of (can_have q m.role ∷ load_tests m.lb v)) _ _ (λ _. refl) (λ _. refl)

demoted_idle : {E : Type 0} (s : Server E) (v : ℕ) → (IsActive s.mode → s.promised ≡ s.accepted) → s.accepted < v → (b : Bool) → nat_lt v s.promised ≡ b → (m : Mode) → IsActive m → (demoted_by b s v).mode ≡ m → ⊥
demoted_idle s v a lt true e m i x =
    let active : IsActive s.mode = subst (λ z. IsActive z) (sym x) i in
    let y = a active in
    let z = is_lt v s.promised e in
    lt_irrefl v (omega arith)
demoted_idle s v a lt false e m i x = subst (λ z. IsActive z) (sym x) i

-- the book after entries of a view that is not above a server's own, whose CP is the whole book
others_count : {E : Type 0} (page : ℕ → Page E) (committed committed' : List E) (s : Server E) (n : ℕ) → length committed' ≡ max (length committed) n → SettledAt page committed s
    → (s.mode ≡ Open → ((W : ℕ) → s.accepted < W → (page W).formed ≡ true → (page W).opened ≡ false) → n ≤ s.cp) → SettledAt page committed' s
others_count page committed committed' s n size h le = record {
  settled = h.settled;
  count = λ m later. let a = h.count m later in let b = le m later in omega arith;
}

others_book : {E : Type 0} (g : Group E) → Ok g → (q : Place) (A n : ℕ) (P : ℕ → Page E) (committed' : List E) → Stays g.page P → ((V w : ℕ) → V < w → (P V).formed ≡ true → (P w).formed ≡ true → PairOk V w (P V) (P w))
    → (P A).formed ≡ true → (P A).opened ≡ true → q ≡ leader (P A).plan.storers → n ≤ (P A).held_twice → length committed' ≡ max (length g.committed) n → (x : Place) → (x ≡ q → ⊥) → SettledAt P g.committed (g.server x) → SettledAt P committed' (g.server x)
others_book g ok q A n P committed' st pair f o lead held_twice size x ne h = others_count P g.committed committed' (g.server x) n size h (λ m later.
    let fx = (ok.server x).views.formed in
    let lx = (ok.server x).modes.leads m in
    let stay = open_stays g.page P st (g.server x).accepted fx in
    ⊎_elim
    (λ (e : (g.server x).accepted ≡ A).
    let mine : x ≡ leader (P (g.server x).accepted).plan.storers = lx.0 ∙ ap (λ (p : Plan). leader p.storers) (sym stay.1) in
    absurd (ne (mine ∙ ap (λ (v : ℕ). leader (P v).plan.storers) e ∙ sym lead)))
    (λ d. ⊎_elim
    (λ (l : (g.server x).accepted < A). absurd (true≢false (sym o ∙ later A l f)))
    (λ (l : A < (g.server x).accepted). le_trans held_twice (le_trans (pair A (g.server x).accepted l f stay.0).kept_start (h.settled (inl m))))
    d)
    (cases_order (g.server x).accepted A))

pub settled_moved : {E : Type 0} (g : Group E) → Ok g → Settled g → (q : Place) (s : Server E) → g.server q ≡ s → (m : Move E) → SettledMay g q s m → Ok (moved g q s m) → Settled (moved g q s m)
settled_moved g ok more q s e (Joining v duty) may ok' = record { server = servers_quiet g ok more q _ g.page (stays_same g.page) (idle_at g.page g.committed _ (λ x. cc) (λ x. cc)); packet = more.packet }
settled_moved g ok more q s e (Collecting reports) may ok' = record { server = same_kept g ok more q s e _ refl refl refl; packet = more.packet }
settled_moved g ok more q s e (Choosing plan from) may ok' =
    let page' = put g.page s.promised (new_page plan from (take plan.start (g.page from).list)) in
    let st : Stays g.page page' = stays_put g.page s.promised _ (λ f. absurd (true≢false (sym f ∙ may))) in
    record { server = servers_quiet g ok more q _ page' st (let h = more_stays g.page page' g.committed s st (fine g ok q s e).views.formed (its_more g more q s e) in record { settled = h.settled; count = h.count }); packet = packets_quiet g more page' st }
settled_moved g ok more q s e (Pulling plan first) may ok' = record { server = servers_quiet g ok more q _ g.page (stays_same g.page) (idle_at g.page g.committed _ (λ x. cc) (λ x. cc)); packet = more.packet }
settled_moved g ok more q s e (Staging items) may ok' = record { server = same_kept g ok more q s e _ refl refl refl; packet = more.packet }
settled_moved g ok more q s e (Hearing x lb) may ok' = record { server = same_kept g ok more q s e _ refl refl refl; packet = more.packet }
settled_moved g ok more q s e (Accepting plan role n) may ok' =
    let page' = put g.page s.promised (into_page (g.page s.promised) q) in
    let st : Stays g.page page' = stays_put g.page s.promised _ (λ f. (f, refl, λ o. o)) in
    record { server = servers_quiet g ok more q _ page' st (idle_at page' g.committed _ (λ x. cc) (λ x. cc)); packet = packets_quiet g more page' st }
settled_moved {E = E} g ok more q s e (Opening lb) may ok' =
    let fn = fine g ok q s e in
    let A = s.accepted in
    let f = fn.views.formed in
    let p' = raised_page (g.page A) (g.page A).plan.start (g.page A).until in
    let P = put g.page A p' in
    let st : Stays g.page P = stays_put g.page A p' (λ f. (f, refl, λ o. absurd (true≢false o))) in
    let here : P A ≡ p' = (puts A g.page p').here in
    let closed = fn.modes.waits may.0 may.1 in
    let active : IsActive s.mode = subst (λ z. IsActive z) (sym may.0) tt in
    let log = fn.logs.log (fn.modes.active active).0 in
    let n = s.base + length s.items in
    let top_is : n ≡ (g.page A).plan.start = log.holds.all may.1 ∙ (ok.page A f).fresh closed in
    let committed' = entered g.committed s.base s.items n in
    let size : length committed' ≡ max (length g.committed) n = entered_length g.committed s.items s.base n (le_trans log.base_cp log.sure.in_book) (omega arith) (le_refl n) in
    record {
      server = each_other (λ x s. SettledAt P committed' s) g.server q (act q (g.clock q) s (Opening lb))
          (λ x ne. others_book g ok q A n P committed' st ok'.pair (ap (λ (p : Page E). p.formed) here ∙ f) (ap (λ (p : Page E). p.opened) here) (may.1 ∙ ap (λ (p : Page E). leader p.plan.storers) (sym here))
          (le_of_eq (top_is ∙ sym (ap (λ (p : Page E). p.held_twice) here))) size x ne (more_stays g.page P g.committed (g.server x) st (ok.server x).views.formed (more.server x)))
          (record {
            settled = λ _. subst (λ (p : Plan). p.start ≤ n) (sym (open_stays g.page P st A f).1) (le_of_eq (sym top_is));
            count = λ _ later.
                let sure = ok.committed.2 in
                let low : length g.committed ≤ n = ⊎_elim
                (λ (x : sure.twice ≡ A). let z = subst (λ (v : ℕ). (g.page v).held_twice ≡ 0) (sym x) ((ok.page A f).kept_later closed) in let k = sure.held_twice in omega arith)
                (λ d. ⊎_elim
                (λ (l : sure.twice < A). let k = (ok.pair sure.twice A l sure.formed f).kept_start in let j = sure.held_twice in omega arith)
                (λ (l : A < sure.twice).
                let o = open_stays g.page P st sure.twice sure.formed in
                let z = (ok.page sure.twice sure.formed).kept_later (o.2 (later sure.twice l o.0)) in
                let k = sure.held_twice in omega arith)
                d)
                (cases_order sure.twice A) in
                omega arith;
          });
      packet = packets_quiet g more P st;
    }
settled_moved {E = E} g ok more q s e (Heeding items cp base) may ok' =
    let f = fine g ok q s e in
    let p' = raised_page (g.page s.accepted) (max (g.page s.accepted).held_twice (s.base + length items)) (max (g.page s.accepted).until (g.clock q + s.delta)) in
    let page' = put g.page s.accepted p' in
    let st : Stays g.page page' = stays_put g.page s.accepted p' (λ f. (f, refl, λ o. absurd (true≢false o))) in
    let a = may.0 in
    let b = (f.logs.log (f.modes.active may.1).0).holds.from_start in
    let c = may.2 in
    record {
      server = servers_quiet g ok more q _ page' st (record {
        settled = λ _. subst (λ (p : Plan). p.start ≤ max s.cp (min cp (s.base + length items))) (sym (open_stays g.page page' st s.accepted f.views.formed).1) (omega arith);
        count = λ x. cc;
      });
      packet = packets_quiet g more page' st;
    }
settled_moved g ok more q s e (Appending x) may ok' =
    let p' = record (g.page s.accepted) { list = (g.page s.accepted).list ++ x ∷ [] } in
    let page' = put g.page s.accepted p' in
    let st : Stays g.page page' = stays_put g.page s.accepted p' (λ f. (f, refl, λ o. o)) in
    record { server = servers_quiet g ok more q _ page' st (let h = more_stays g.page page' g.committed s st (fine g ok q s e).views.formed (its_more g more q s e) in record { settled = h.settled; count = h.count }); packet = packets_quiet g more page' st }
settled_moved g ok more q s e (Noting top lb until) may ok' = record { server = same_kept g ok more q s e _ refl refl refl; packet = more.packet }
settled_moved {E = E} g ok more q s e (Committing n) may ok' =
    let fn = fine g ok q s e in
    let A = s.accepted in
    let active : IsActive s.mode = subst (λ z. IsActive z) (sym may.0) tt in
    let log = fn.logs.log (fn.modes.active active).0 in
    let leads = fn.modes.leads may.0 in
    let committed' = entered g.committed s.base s.items n in
    let base_n : s.base ≤ n = le_trans log.base_cp may.1 in
    let size : length committed' ≡ max (length g.committed) n = entered_length g.committed s.items s.base n (le_trans log.base_cp log.sure.in_book) base_n (le_trans may.2 log.holds.held_twice) in
    let h = its_more g more q s e in
    record {
      server = each_other (λ x s. SettledAt g.page committed' s) g.server q (act q (g.clock q) s (Committing n))
          (λ x ne. others_book g ok q A n g.page committed' (stays_same g.page) ok.pair fn.views.formed leads.1 leads.0 may.2 size x ne (more.server x))
          (record {
            settled = λ m. le_trans (h.settled m) may.1;
            count = λ m later. let a = h.count may.0 later in let b = may.1 in omega arith;
          });
      packet = more.packet;
    }
settled_moved g ok more q s e (Basing n) may ok' = record { server = same_kept g ok more q s e _ refl refl refl; packet = more.packet }
settled_moved g ok more q s e (Applying n) may ok' = record { server = same_kept g ok more q s e _ refl refl refl; packet = more.packet }
settled_moved g ok more q s e Flushing may ok' = record { server = same_kept g ok more q s e _ refl refl refl; packet = more.packet }
settled_moved g ok more q s e (Demoting v) may ok' =
    let f = fine g ok q s e in
    record { server = servers_quiet g ok more q _ g.page (stays_same g.page) (idle_at g.page g.committed _ (λ x. demoted_idle s v (λ a. (f.modes.active a).1) may (nat_lt v s.promised) refl Open tt x) (λ x. demoted_idle s v (λ a. (f.modes.active a).1) may (nat_lt v s.promised) refl Live tt x)); packet = more.packet }
settled_moved g ok more q s e Saving may ok' = record { server = servers_quiet g ok more q _ g.page (stays_same g.page) (idle_at g.page g.committed _ (λ x. cc) (λ x. cc)); packet = more.packet }
settled_moved g ok more q s e Falling may ok' = record { server = servers_quiet g ok more q _ g.page (stays_same g.page) (idle_at g.page g.committed _ (λ x. cc) (λ x. cc)); packet = more.packet }
settled_moved g ok more q s e (Booting d) may ok' =
    let r = booted_rests q (g.clock q) d (mark_of s) in
    record { server = servers_quiet g ok more q _ g.page (stays_same g.page) (idle_at g.page g.committed _ (λ x. cc (r, x)) (λ x. cc (r, x))); packet = more.packet }
settled_moved g ok more q s e (Reading n x) may ok' = record { server = same_kept g ok more q s e s refl refl refl; packet = more.packet }
settled_moved g ok more q s e (Saying say) may ok' = record { server = same_kept g ok more q s e s refl refl refl; packet = more.packet }
settled_moved g ok more q s e (Sending to m) may ok' = record { server = same_kept g ok more q s e s refl refl refl; packet = (may, more.packet) }
