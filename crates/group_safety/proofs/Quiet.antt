-- The moves that change one server alone.
use Rattle.std.proofs.Common.{◌≡◌, ℕ, ◌+◌, ◌-◌, ◌<◌, ◌≤◌, ◌⊎◌, ◌&&◌, Bool, true, false, List, [], ◌∷◌, ◌++◌, length, Option, None, Some, drop, refl, sym, ◌∙◌, subst, inr, arith, le_trans, lt_of_lt_of_le, true≢false, lt_irrefl, le_of_lt, le_refl, zero-le, nat_lt, ◌==◌, if◌then◌else◌}
use Rattle.std.proofs.lemmas.Bool.Decides.{nat_tests}
use Rattle.std.proofs.lemmas.List.{length-drop}
use Rattle.group_rules.specs.Effects.{NewLog, demoted_by, down, empty_log, lengthened, load_tests, loaded, lost_log, resting, saved_log, saving}
use Rattle.group_safety.specs.Facts.{BodyOk, LogOk, Ok, PullsOk, ServerOk, ViewsOk}
use Rattle.group_rules.specs.Form.{fits, fits_tests, keeps, wanted}
use Rattle.group_rules.specs.Limits.{can_have, is_log, is_outside}
use Rattle.group_rules.specs.Moves.{Applying, Basing, Booting, Demoting, Falling, Flushing, Hearing, Noting, Pulling, Reading, Saving, Saying, Sending, Staging, act, moved, said_after}
use Rattle.group_rules.specs.Places.{Zero, One, Two, Place, S01, all_of, at, is_p2, partner, same}
use Rattle.group_rules.specs.State.{Answered, Empty, Follows, Group, Held, Joins, Leads, Live, Log, Lost, Message, Mode, Open, Outside, Plan, Pulls, Rests, Role, Saved, Say, Server, Waits, mark_of, top}
use Rattle.group_safety.specs.Words.{Holds, IsActive, IsJoining, Promised, Sure}
use Rattle.group_rules.proofs.Tests.{by_if, right, each_of, all_true, le_is}
use Rattle.group_safety.proofs.Common.{each_at, each_with, sure_up, sure_less, none_heard}
use Rattle.group_safety.proofs.Lists.{part_drop}

-- what is so of a server
abbrev pub Fine : {E : Type 0} → Group E → Place → Server E → Type 0
Fine g q s = ServerOk g.page g.joins g.committed (g.clock q) q s

-- a group in which one server alone is another
pub one_server : {E : Type 0} (g : Group E) → Ok g → (q : Place) (s : Server E) → Fine g q s → Ok (record g { server = at g.server q s })
one_server g ok q s h = record {
  server = each_at (λ x s. ServerOk g.page g.joins g.committed (g.clock x) x s) g.server q s ok.server h;
  page = ok.page;
  pair = ok.pair;
  join = ok.join;
  packet = ok.packet;
  first_view = ok.first_view;
  late = ok.late;
  committed = ok.committed;
}

pub fine : {E : Type 0} (g : Group E) → Ok g → (q : Place) (s : Server E) → g.server q ≡ s → Fine g q s
fine g ok q s e = subst (λ s. Fine g q s) e (ok.server q)

-- no fact speaks of the reads in the book, or of the answers
pub ok_beside : {E : Type 0} (g : Group E) (book : List E) (answered : List (Answered E)) → Ok g → Ok (record g { book = book; answered = answered })
ok_beside g book answered ok = record { server = ok.server; page = ok.page; pair = ok.pair; join = ok.join; packet = ok.packet; first_view = ok.first_view; late = ok.late; committed = ok.committed }

pub read_kept : {E : Type 0} (g : Group E) → Ok g → (q : Place) (s : Server E) → g.server q ≡ s → (n : ℕ) (e : E) → Ok (moved g q s (Reading n e))
read_kept g ok q s e n x = ok_beside _ (g.book ++ x ∷ []) g.answered (one_server g ok q s (fine g ok q s e))

pub say_kept : {E : Type 0} (g : Group E) → Ok g → (q : Place) (s : Server E) → g.server q ≡ s → (say : Say E) → Ok (moved g q s (Saying say))
say_kept g ok q s e say = ok_beside _ g.book (said_after g.answered s say) (one_server g ok q s (fine g ok q s e))

pub send_kept : {E : Type 0} (g : Group E) → Ok g → (q : Place) (s : Server E) → g.server q ≡ s → (to : Place) (m : Message E) → BodyOk g.page g.joins g.committed q to m → Ok (moved g q s (Sending to m))
send_kept g ok q s e to m b =
    let k = one_server g ok q s (fine g ok q s e) in
    record { server = k.server; page = ok.page; pair = ok.pair; join = ok.join; packet = (b, ok.packet); first_view = ok.first_view; late = ok.late; committed = ok.committed }

pub note_kept : {E : Type 0} (g : Group E) → Ok g → (q : Place) (s : Server E) → g.server q ≡ s → (top lb until : ℕ) → until ≤ (g.page s.accepted).until → Ok (moved g q s (Noting top lb until))
note_kept g ok q s e top lb until le =
    let h = fine g ok q s e in
    let m = h.modes in
    let l = h.logs in
    one_server g ok q _ (record {
      views = h.views;
      logs = record { log = l.log; lb_sure = l.lb_sure; saved = l.saved; order = l.order; empty = l.empty; served = l.served; saved_order = l.saved_order };
      modes = record { active = m.active; plan = m.plan; leads = λ o. let x = m.leads o in (x.0, x.1, (let y = x.2 in omega arith)); follows = m.follows; waits = m.waits; heard = m.heard; joining = m.joining; pulls = m.pulls };
      duty = h.duty;
      chose = h.chose;
      outside = h.outside;
      tells = h.tells;
      promise = h.promise;
    })

pub hear_kept : {E : Type 0} (g : Group E) → Ok g → (q : Place) (s : Server E) → g.server q ≡ s → (from : Place) (lb : ℕ) → (g.page s.promised).formed ≡ true → from ≡ partner (g.page s.promised).plan.storers → (g.page s.promised).partner_in ≡ true → Ok (moved g q s (Hearing from lb))
hear_kept g ok q s e from lb f l' p =
    let h = fine g ok q s e in
    let m = h.modes in
    let l = h.logs in
    one_server g ok q _ (record {
      views = h.views;
      logs = record { log = l.log; lb_sure = l.lb_sure; saved = l.saved; order = l.order; empty = l.empty; served = l.served; saved_order = l.saved_order };
      modes = record { active = m.active; plan = m.plan; leads = m.leads; follows = m.follows; waits = m.waits; heard = each_with (λ x o. (n : ℕ) → o ≡ Some n → ((g.page s.promised).formed ≡ true) × (x ≡ partner (g.page s.promised).plan.storers) × ((g.page s.promised).partner_in ≡ true)) s.heard from (Some lb) m.heard (λ n y. (f, l', p)); joining = m.joining; pulls = m.pulls };
      duty = h.duty;
      chose = h.chose;
      outside = h.outside;
      tells = h.tells;
      promise = h.promise;
    })

not_active : (m : Mode) → IsJoining m → IsActive m → ⊥
not_active Rests a b = a
not_active Joins a b = b
not_active Pulls a b = b
not_active Waits a b = a
not_active Open a b = a
not_active Live a b = a

pub pull_kept : {E : Type 0} (g : Group E) → Ok g → (q : Place) (s : Server E) → g.server q ≡ s → (plan : Plan) (first : ℕ) → IsJoining s.mode → PullsOk g.page q (act q (g.clock q) s (Pulling plan first)) → Ok (moved g q s (Pulling plan first))
pull_kept g ok q s e plan first j pull =
    let h = fine g ok q s e in
    let m = h.modes in
    let l = h.logs in
    one_server g ok q _ (record {
      views = h.views;
      logs = record { log = l.log; lb_sure = l.lb_sure; saved = l.saved; order = l.order; empty = l.empty; served = l.served; saved_order = l.saved_order };
      modes = record { active = λ a. absurd a; plan = λ a. absurd a; leads = λ x. cc; follows = λ x. cc; waits = λ x. cc; heard = m.heard; joining = λ _. m.joining j; pulls = λ _. pull };
      duty = h.duty;
      chose = h.chose;
      outside = h.outside;
      tells = λ _. h.tells j;
      promise = h.promise;
    })

pub stage_kept : {E : Type 0} (g : Group E) → Ok g → (q : Place) (s : Server E) → g.server q ≡ s → (staged : List E) → PullsOk g.page q (act q (g.clock q) s (Staging staged)) → Ok (moved g q s (Staging staged))
stage_kept g ok q s e staged pull =
    let h = fine g ok q s e in
    let m = h.modes in
    let l = h.logs in
    one_server g ok q _ (record {
      views = h.views;
      logs = record { log = l.log; lb_sure = l.lb_sure; saved = l.saved; order = l.order; empty = l.empty; served = l.served; saved_order = l.saved_order };
      modes = record { active = m.active; plan = m.plan; leads = m.leads; follows = m.follows; waits = m.waits; heard = m.heard; joining = m.joining; pulls = λ _. pull };
      duty = h.duty;
      chose = h.chose;
      outside = h.outside;
      tells = h.tells;
      promise = h.promise;
    })

pub base_kept : {E : Type 0} (g : Group E) → Ok g → (q : Place) (s : Server E) → g.server q ≡ s → (n : ℕ) → IsActive s.mode → s.base ≤ n → n ≤ s.lb → Ok (moved g q s (Basing n))
base_kept g ok q s e n a up low =
    let h = fine g ok q s e in
    let m = h.modes in
    let l = h.logs in
    let act = m.active a in
    let log = l.log act.0 in
    let order = l.order act.0 in
    let cp_top = log.cp_top in
    let size : length (drop (n - s.base) s.items) ≡ length s.items - (n - s.base) = length-drop (n - s.base) s.items in
    let top : s.base + length s.items ≡ n + length (drop (n - s.base) s.items) = omega arith in
    one_server g ok q _ (record {
      views = h.views;
      logs = record {
        log = λ _. record {
          base_cp = omega arith;
          cp_top = omega arith;
          holds = subst (λ (k : ℕ). Holds (g.page s.accepted) q k) top log.holds;
          part = part_drop s.base n (n - s.base) s.items (g.page s.accepted).list (omega arith) log.part;
          sure = log.sure;
        };
        lb_sure = l.lb_sure;
        saved = l.saved;
        order = λ _. (low, order.1, order.2);
        empty = l.empty;
        served = l.served;
        saved_order = l.saved_order;
      };
      modes = record { active = m.active; plan = m.plan; leads = m.leads; follows = m.follows; waits = m.waits; heard = m.heard; joining = m.joining; pulls = λ x. absurd (not_active s.mode (subst (λ z. IsJoining z) (sym x) tt) a) };
      duty = h.duty;
      chose = h.chose;
      outside = h.outside;
      tells = λ j. absurd (not_active s.mode j a);
      promise = h.promise;
    })

pub apply_kept : {E : Type 0} (g : Group E) → Ok g → (q : Place) (s : Server E) → g.server q ≡ s → (n : ℕ) → s.ap ≤ n → n ≤ s.cp → Ok (moved g q s (Applying n))
apply_kept g ok q s e n up low =
    let h = fine g ok q s e in
    let m = h.modes in
    let l = h.logs in
    one_server g ok q _ (record {
      views = h.views;
      logs = record { log = l.log; lb_sure = l.lb_sure; saved = l.saved; order = λ x. ((l.order x).0, le_trans (l.order x).1 up, low); empty = l.empty; served = l.served; saved_order = l.saved_order };
      modes = record { active = m.active; plan = m.plan; leads = m.leads; follows = m.follows; waits = m.waits; heard = m.heard; joining = m.joining; pulls = m.pulls };
      duty = h.duty;
      chose = h.chose;
      outside = h.outside;
      tells = h.tells;
      promise = h.promise;
    })

pub flush_kept : {E : Type 0} (g : Group E) → Ok g → (q : Place) (s : Server E) → g.server q ≡ s → IsActive s.mode → Ok (moved g q s Flushing)
flush_kept g ok q s e a =
    let h = fine g ok q s e in
    let m = h.modes in
    let l = h.logs in
    let act = m.active a in
    let log = l.log act.0 in
    let order = l.order act.0 in
    one_server g ok q _ (record {
      views = h.views;
      logs = record {
        log = l.log;
        lb_sure = sure_less g.page g.committed s.accepted s.cp s.ap order.2 log.sure;
        saved = l.saved;
        order = λ _. (le_trans order.0 order.1, le_refl _, order.2);
        empty = l.empty;
        served = l.served;
        saved_order = λ v x. cc (act.2, x);
      };
      modes = record { active = m.active; plan = m.plan; leads = m.leads; follows = m.follows; waits = m.waits; heard = m.heard; joining = m.joining; pulls = λ x. absurd (not_active s.mode (subst (λ z. IsJoining z) (sym x) tt) a) };
      duty = h.duty;
      chose = h.chose;
      outside = h.outside;
      tells = λ j. absurd (not_active s.mode j a);
      promise = h.promise;
    })

-- a server that falls keeps its mark
fallen_fine : {E : Type 0} (g : Group E) (q : Place) (s : Server E) → ViewsOk g.page g.joins q s.promised s.accepted → Sure g.page g.committed s.accepted s.lb
    → ((v : Saved E) → s.saved ≡ Some v → (s.role ≡ Outside → ⊥) → LogOk g.page g.committed q s.accepted v.base v.cp v.items) → ((v : Saved E) → s.saved ≡ Some v → (v.base ≤ s.lb) × (s.lb ≤ v.cp))
    → (s.role ≡ Outside → (q ≡ Two) × ((s.accepted ≡ 0) ⊎ ((g.page s.accepted).opened ≡ true) × ((g.page s.accepted).plan.storers ≡ S01)))
    → ((V : ℕ) → Promised q s.up s.horizon (g.clock q) s.longest V (g.page V)) → Fine g q (down (mark_of s))
fallen_fine g q s views lb saved order outside promise = record {
  views = views;
  logs = record { log = λ x. cc; lb_sure = lb; saved = saved; order = λ x. cc; empty = λ x. cc; served = λ x. cc; saved_order = order };
  modes = record { active = λ a. absurd a; plan = λ a. absurd a; leads = λ x. cc; follows = λ x. cc; waits = λ x. cc; heard = λ x lb e. absurd (none_heard x lb e); joining = λ a. absurd a; pulls = λ x. cc };
  duty = λ t x. cc;
  chose = λ v p x. cc;
  outside = outside;
  tells = λ a. absurd a;
  promise = λ V f x. (λ up. cc, (promise V f x).1);
}

pub fall_kept : {E : Type 0} (g : Group E) → Ok g → (q : Place) (s : Server E) → g.server q ≡ s → Ok (moved g q s Falling)
fall_kept g ok q s e =
    let h = fine g ok q s e in
    one_server g ok q _ (fallen_fine g q s h.views h.logs.lb_sure h.logs.saved h.logs.saved_order h.outside h.promise)

pub log_is : (h : Held) → is_log h ≡ true → h ≡ Log
log_is Log e = refl
log_is Lost e = cc
log_is Empty e = cc

save_fine : {E : Type 0} (g : Group E) (q : Place) (s : Server E) → Fine g q s → (v : Option (Saved E)) → Fine g q (down (mark_of (saving q s v)))
save_fine g q s h (Some v) = fallen_fine g q s h.views h.logs.lb_sure h.logs.saved h.logs.saved_order h.outside h.promise
save_fine g q s h None = by_if (λ (x : Server _). Fine g q (down (mark_of x))) (is_log s.held) _ _
    (λ t.
    let held = log_is s.held t in
    let log = h.logs.log held in
    let order = h.logs.order held in
    let lb = if is_p2 q then s.lb else s.ap in
    let low : s.base ≤ lb = by_if (λ (n : ℕ). s.base ≤ n) (is_p2 q) s.lb s.ap (λ _. order.0) (λ _. le_trans order.0 order.1) in
    let high : lb ≤ s.cp = by_if (λ (n : ℕ). n ≤ s.cp) (is_p2 q) s.lb s.ap (λ _. le_trans order.1 order.2) (λ _. order.2) in
    fallen_fine g q (record s { lb = lb; saved = Some (record { base = s.base; cp = s.cp; items = s.items }) }) h.views
    (sure_less g.page g.committed s.accepted s.cp lb high log.sure)
    (λ v x r. let y : record { base = s.base; cp = s.cp; items = s.items } ≡ v = cc in subst (λ (v : Saved _). LogOk g.page g.committed q s.accepted v.base v.cp v.items) y log)
    (λ v x. let y : record { base = s.base; cp = s.cp; items = s.items } ≡ v = cc in subst (λ (v : Saved _). (v.base ≤ lb) × (lb ≤ v.cp)) y (low, high))
    h.outside h.promise)
    (λ _. fallen_fine g q s h.views h.logs.lb_sure h.logs.saved h.logs.saved_order h.outside h.promise)

pub save_kept : {E : Type 0} (g : Group E) → Ok g → (q : Place) (s : Server E) → g.server q ≡ s → Ok (moved g q s Saving)
save_kept g ok q s e = one_server g ok q _ (save_fine g q s (fine g ok q s e) s.saved)

p2_is' : (q : Place) (b : Bool) → (is_p2 q && b) ≡ true → q ≡ Two
p2_is' Zero b e = cc
p2_is' One b e = cc
p2_is' Two b e = refl

-- a server that is up again and rests keeps the facts that its mark has
rest_fine : {E : Type 0} (g : Group E) (q : Place) (d : ℕ) (s : Server E) → Fine g q s → (held : Held) (n : NewLog E) → Sure g.page g.committed s.accepted n.lb
    → (held ≡ Log → LogOk g.page g.committed q s.accepted n.base n.cp n.items × ((n.base ≤ n.lb) × (n.lb ≤ n.ap) × (n.ap ≤ n.cp)))
    → (held ≡ Empty → (q ≡ Two) × (s.role ≡ Outside)) → ((v : Saved E) → s.saved ≡ Some v → (v.base ≤ n.lb) × (n.lb ≤ v.cp)) → Fine g q (resting (g.clock q) d (lengthened d (mark_of s)) held n)
rest_fine g q d s h held n lb log empty order = record {
  views = h.views;
  logs = record {
    log = λ x. (log x).0;
    lb_sure = lb;
    saved = h.logs.saved;
    order = λ x. (log x).1;
    empty = empty;
    served = λ _. zero-le;
    saved_order = order;
  };
  modes = record { active = λ a. absurd a; plan = λ a. absurd a; leads = λ x. cc; follows = λ x. cc; waits = λ x. cc; heard = λ x lb e. absurd (none_heard x lb e); joining = λ a. absurd a; pulls = λ x. cc };
  duty = λ t x. cc;
  chose = λ v p x. cc;
  outside = h.outside;
  tells = λ a. absurd a;
  promise = λ V f x. let y = (h.promise V f x).1 in (λ _. omega arith, omega arith);
}

lost_fine : {E : Type 0} (g : Group E) (q : Place) (d : ℕ) (s : Server E) → Fine g q s → Fine g q (resting (g.clock q) d (lengthened d (mark_of s)) Lost (lost_log s.lb))
lost_fine g q d s h = rest_fine g q d s h Lost _ h.logs.lb_sure (λ x. cc) (λ x. cc) h.logs.saved_order

pub outside_is : (r : Role) → is_outside r ≡ true → r ≡ Outside
outside_is Outside e = refl
outside_is (Leads p) e = cc
outside_is (Follows p) e = cc

-- a role that a choice can give isn't outside
pub inside_is : (q : Place) (r : Role) → can_have q r ≡ true → r ≡ Outside → ⊥
inside_is q (Leads p) e x = cc
inside_is q (Follows p) e x = cc
inside_is q Outside e x = true≢false (sym e)

loaded_fine : {E : Type 0} (g : Group E) (q : Place) (d : ℕ) (s : Server E) → Fine g q s → (o : Option (Saved E)) → s.saved ≡ o → Fine g q (loaded q (g.clock q) d (lengthened d (mark_of s)) o)
loaded_fine g q d s h None e = lost_fine g q d s h
loaded_fine g q d s h (Some v) e = by_if (λ (x : Server _). Fine g q x) (all_of (can_have q s.role ∷ load_tests s.lb v)) _ _
    (λ t.
    let a = each_of (can_have q s.role ∷ load_tests s.lb v) t in
    let log = h.logs.saved v e (inside_is q s.role a.0) in
    let order = h.logs.saved_order v e in
    let lb = if is_p2 q then v.base else s.lb in
    let low : v.base ≤ lb = by_if (λ (n : ℕ). v.base ≤ n) (is_p2 q) v.base s.lb (λ _. le_refl _) (λ _. order.0) in
    let high : lb ≤ v.cp = by_if (λ (n : ℕ). n ≤ v.cp) (is_p2 q) v.base s.lb (λ _. log.base_cp) (λ _. order.1) in
    rest_fine g q d s h Log (saved_log q s.lb v) (sure_less g.page g.committed s.accepted v.cp lb high log.sure)
    (λ _. (log, (low, le_refl _, high)))
    (λ x. cc)
    (λ u x. let y : v ≡ u = (let z : Some v ≡ Some u = sym e ∙ x in cc) in subst (λ (v : Saved _). (v.base ≤ lb) × (lb ≤ v.cp)) y (low, high)))
    (λ _. lost_fine g q d s h)

pub boot_kept : {E : Type 0} (g : Group E) → Ok g → (q : Place) (s : Server E) → g.server q ≡ s → (d : ℕ) → Ok (moved g q s (Booting d))
boot_kept g ok q s e d =
    let h = fine g ok q s e in
    one_server g ok q _ (by_if (λ (x : Server _). Fine g q x) (is_p2 q && is_outside s.role) _ _
    (λ t. rest_fine g q d s h Empty (empty_log s.lb) h.logs.lb_sure (λ x. cc) (λ _. (p2_is' q (is_outside s.role) t, outside_is s.role (right (is_p2 q) (is_outside s.role) t))) h.logs.saved_order)
    (λ _. loaded_fine g q d s h s.saved refl))

wanted_other : {E : Type 0} (q : Place) (s : Server E) (plan : Plan) → keeps q s plan ≡ false → wanted q s plan ≡ plan.base
wanted_other q s plan k = by_if (λ (n : ℕ). n ≡ plan.base) (keeps q s plan) s.cp plan.base (λ t. absurd (true≢false (sym t ∙ k))) (λ _. refl)

demoted_fits : {E : Type 0} (q : Place) (s : Server E) (v : ℕ) → q ≡ Two → fits q s s.plan ≡ true → same q s.plan.source ≡ false → fits q (record s { accepted = v; role = Outside; saved = None; held = Empty; base = 0; ap = 0; cp = 0; items = []; served = 0 }) s.plan ≡ true
demoted_fits {E = E} q s v p2 f n =
    let a = each_of (fits_tests q s s.plan) f in
    let last : (if same q s.plan.source then all_of (false ∷ (0 + length {A = E} [] == s.plan.start) ∷ []) else true) ≡ true = rw n in
    all_true (fits_tests q (record s { accepted = v; role = Outside; saved = None; held = Empty; base = 0; ap = 0; cp = 0; items = []; served = 0 }) s.plan) (a.0, (a.1.0, (a.1.1.0, (a.1.1.1.0, (a.1.1.1.1.0, (le_is 0 s.plan.start zero-le, (a.1.1.1.1.1.1.0, (refl, (last, tt)))))))))

demoted_wanted : {E : Type 0} (q : Place) (s : Server E) (v : ℕ) → q ≡ Two → wanted q s s.plan ≡ s.wanted_from → same q s.plan.source ≡ false → wanted q (record s { accepted = v; role = Outside; saved = None; held = Empty; base = 0; ap = 0; cp = 0; items = []; served = 0 }) s.plan ≡ s.wanted_from
demoted_wanted q s v p2 f n = sym (wanted_other q s s.plan (by_if (λ (b : Bool). b ≡ false) (is_log s.held) (if is_p2 q then same q s.plan.source else true) false
    (λ _. rw p2 (subst (λ (x : Place). same x s.plan.source ≡ false) p2 n)) (λ _. refl))) ∙ f

demote_fine : {E : Type 0} (g : Group E) → Ok g → (q : Place) (s : Server E) → Fine g q s → (v : ℕ) → q ≡ Two → s.accepted < v → (g.page v).formed ≡ true → (g.page v).opened ≡ true → (g.page v).plan.storers ≡ S01
    → (b : Bool) → nat_lt v s.promised ≡ b → Fine g q (demoted_by b s v)
demote_fine g ok q s h v p2 lt f o st true e =
    let m = h.modes in
    let higher : v < s.promised = grind (arith, nat_tests) in
    let idle : IsActive s.mode → ⊥ = λ a. let same = (m.active a).1 in lt_irrefl v (lt_of_lt_of_le higher (subst (λ (n : ℕ). n ≤ v) (sym same) (le_of_lt lt))) in
    let w = h.views in
    record {
      views = record { order = le_of_lt higher; formed = f; promises = w.promises; into = λ n x i. le_trans (w.into n x i) (le_of_lt lt); own = w.own; joined = w.joined; ahead_of_leader = w.ahead_of_leader; ahead_of_partner = w.ahead_of_partner };
      logs = record { log = λ x. cc; lb_sure = sure_up g ok s.accepted v s.lb (le_of_lt lt) w.formed f h.logs.lb_sure; saved = λ u x. cc; order = λ x. cc; empty = λ _. (p2, refl); served = λ x. cc; saved_order = λ u x. cc };
      modes = record {
        active = λ a. absurd (idle a);
        plan = λ a. absurd (idle a);
        leads = λ x. absurd (idle (subst (λ z. IsActive z) (sym x) tt));
        follows = λ x. absurd (idle (subst (λ z. IsActive z) (sym x) tt));
        waits = λ x. absurd (idle (subst (λ z. IsActive z) (sym x) tt));
        heard = m.heard;
        joining = λ j. (higher, (m.joining j).1);
        pulls = λ x. let y = m.pulls x in (y.0, y.1, y.2, y.3, demoted_fits q s v p2 y.4 y.6, demoted_wanted q s v p2 y.5 y.6, y.6);
      };
      duty = h.duty;
      chose = h.chose;
      outside = λ _. (p2, inr (o, st));
      tells = λ j i y a b x. cc;
      promise = h.promise;
    }
demote_fine g ok q s h v p2 lt f o st false e =
    let low : s.promised ≤ v = grind (arith, nat_tests) in
    let w = h.views in
    record {
      views = record {
        order = le_refl _;
        formed = f;
        promises = λ n x i. le_trans (w.promises n x i) low;
        into = λ n x i. le_trans (w.into n x i) (le_of_lt lt);
        own = λ n x i. le_trans (w.own n x i) low;
        joined = λ j i x. le_trans (w.joined j i x) low;
        ahead_of_leader = λ V n a b c d i x. w.ahead_of_leader V n a b c d i (le_trans low x);
        ahead_of_partner = λ V n a b c d i x. w.ahead_of_partner V n a b c d i (le_trans low x);
      };
      logs = record { log = λ x. cc; lb_sure = sure_up g ok s.accepted v s.lb (le_of_lt lt) w.formed f h.logs.lb_sure; saved = λ u x. cc; order = λ x. cc; empty = λ _. (p2, refl); served = λ x. cc; saved_order = λ u x. cc };
      modes = record { active = λ a. absurd a; plan = λ a. absurd a; leads = λ x. cc; follows = λ x. cc; waits = λ x. cc; heard = λ x lb e. absurd (none_heard x lb e); joining = λ a. absurd a; pulls = λ x. cc };
      duty = λ t x. cc;
      chose = λ u p x. cc;
      outside = λ _. (p2, inr (o, st));
      tells = λ a. absurd a;
      promise = h.promise;
    }

pub demote_kept : {E : Type 0} (g : Group E) → Ok g → (q : Place) (s : Server E) → g.server q ≡ s → (v : ℕ) → q ≡ Two → s.accepted < v → (g.page v).formed ≡ true → (g.page v).opened ≡ true → (g.page v).plan.storers ≡ S01 → Ok (moved g q s (Demoting v))
demote_kept g ok q s e v p2 lt f o st = one_server g ok q _ (demote_fine g ok q s (fine g ok q s e) v p2 lt f o st (nat_lt v s.promised) refl)
