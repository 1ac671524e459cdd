-- The facts hold after every schedule, from each group that meets them.
use Rattle.std.proofs.Common.{◌≡◌, ℕ, zero, suc, ◌+◌, ◌-◌, ◌≤◌, true, List, [], ◌∷◌, length, Option, None, Some, slice_get, refl, sym, subst, inl, arith, le_trans, true≢false, ⊎_elim, le_refl, le_of_eq, zero-le, nat_lt}
use Rattle.file_tree.specs.Book.{Entry}
use Rattle.group_safety.specs.Reported.{ReportedAt}
use Rattle.group_safety.specs.Bases.{BasesAt, BasesBody}
use Rattle.group_rules.specs.Effects.{down, first_mark, first_role}
use Rattle.group_safety.specs.Entered.{BodyWithin, UpdatesFrom}
use Rattle.group_safety.specs.Facts.{LogOk, Ok, PacketOk, PageOk, ServerOk}
use Rattle.group_safety.specs.Laws.{Whole, with_old_marks}
use Rattle.group_rules.specs.Limits.{IsDelta, can_have, delta_tests, limit, room}
use Rattle.group_rules.specs.Moves.{Booting, Move, moved_by}
use Rattle.group_rules.specs.Places.{IsIn, Zero, One, Two, Place, S01, all_of, at, leader}
use Rattle.group_safety.specs.Settled.{SettledBody}
use Rattle.group_rules.specs.State.{Group, JoinMade, Outside, Packet, Page, Saved, Server, longest_of}
use Rattle.group_rules.specs.Step.{Advance, At, Boot, Clock, Comes, CutAt, CutDeliver, Deliver, Delta, Does, Happening, Input, boot, clock_tests, cut_delivered, cut_steps, delivered, first_group, first_page, happens, list_of, near, near_tests, new_disks, numbered, run, step_of, steps, writes_any, Near}
use Rattle.group_safety.specs.Words.{Each, Promised, Sure, Under}
use Rattle.group_rules.proofs.Tests.{by_if, each_of, is_le}
use Rattle.group_safety.proofs.Common.{each_at, none_heard}
use Rattle.group_safety.proofs.Joining.{sure_zero}
use Rattle.group_safety.proofs.Quiet.{boot_kept}
use Rattle.group_safety.proofs.Entering.{down_tidy}
use Rattle.group_safety.proofs.Moving.{Good, Goes, goes_good, goes_one}
use Rattle.group_safety.proofs.Steps.{Known, falls, step_goes}

pub good_of : (g : Group Entry) → Whole g → (q : Place) → Good g q (g.server q)
good_of g h q = record {
  ok = h.ok;
  is = refl;
  settled = h.settled;
  bases = h.bases;
  reported = h.reported;
  beside = record {
    answers = h.answers;
    books = h.books;
    within = h.within;
    tidy = h.tidy;
  };
  near = h.near;
}

pub whole_of : (g : Group Entry) (q : Place) (s : Server Entry) → Good g q s → Whole g
whole_of g q s h = record {
  ok = h.ok;
  settled = h.settled;
  bases = h.bases;
  reported = h.reported;
  answers = h.beside.answers;
  books = h.beside.books;
  within = h.beside.within;
  tidy = h.beside.tidy;
  near = h.near;
}

-- the moves of a step lead from a group that meets the facts to one
moves_whole : (g : Group Entry) (q : Place) (ms : List (Move Entry)) → Goes g q (g.server q) ms → Whole (moved_by g q (g.server q) ms)
moves_whole g q ms h = whole_of _ q _ (goes_good ms g q (g.server q) h)

pub input_goes : (size : List Entry → Entry → ℕ) (g : Group Entry) → Whole g → (q : Place) → (g.server q).up ≡ true → (i : Input) → Known g q i → Goes g q (g.server q) (step_of size g q i)
input_goes size g h q up i k = step_goes size g q (g.server q) (good_of g h q) up (list_of g q) refl i k

steps_whole : (size : List Entry → Entry → ℕ) (g : Group Entry) → Whole g → (q : Place) (i : Input) → Known g q i → Whole (steps size g q i)
steps_whole size g h q i k = by_if (λ (g : Group Entry). Whole g) (g.server q).up _ g (λ t. moves_whole g q _ (input_goes size g h q t i k)) (λ _. h)

cut_whole : (size : List Entry → Entry → ℕ) (g : Group Entry) → Whole g → (q : Place) (i : Input) → Known g q i → Whole (cut_steps size g q i)
cut_whole size g h q i k = by_if (λ (g : Group Entry). Whole g) (g.server q).up _ g
    (λ t. by_if (λ (g : Group Entry). Whole g) (writes_any q (g.clock q) (g.server q) (step_of size g q i)) _ _
    (λ _. moves_whole g q _ (falls g q (g.server q) (good_of g h q)))
    (λ _. moves_whole g q _ (input_goes size g h q t i k)))
    (λ _. h)

-- a fact of each packet holds of the one at a place
packet_at : {X : Type 0} (P : X → Type 0) (xs : List X) (k : ℕ) (x : X) → slice_get xs k ≡ Some x → Each P xs → P x
packet_at P [] k x e h = cc
packet_at P (y ∷ ys) zero x e h = let z : y ≡ x = cc in subst P z h.0
packet_at P (y ∷ ys) (suc k) x e h = packet_at P ys k x e h.1

later_server : (page : ℕ → Page Entry) (joins : List JoinMade) (committed : List Entry) (q : Place) (s : Server Entry) (c d : ℕ) → c ≤ d → ServerOk page joins committed c q s → ServerOk page joins committed d q s
later_server page joins committed q s c d le h = record {
  views = h.views;
  logs = h.logs;
  modes = h.modes;
  duty = h.duty;
  chose = h.chose;
  outside = h.outside;
  tells = h.tells;
  promise = λ V f x. ((h.promise V f x).0, (let y = (h.promise V f x).1 in omega arith));
}

later_group : (g : Group Entry) → Ok g → (clock : Place → ℕ) → ((x : Place) → g.clock x ≤ clock x) → Ok (record g { clock = clock })
later_group g ok clock later = record {
  server = λ x. later_server g.page g.joins g.committed x (g.server x) (g.clock x) (clock x) (later x) (ok.server x);
  page = ok.page;
  pair = ok.pair;
  join = ok.join;
  packet = ok.packet;
  first_view = ok.first_view;
  committed = ok.committed;
  late = λ w f o z. le_trans (ok.late w f o z) (later (leader (g.page w).plan.storers));
}

pub near_of : (t : ℕ) (c : Place → ℕ) → near t c ≡ true → (x : Place) → (t ≤ c x + 50) × (c x ≤ t + 50)
near_of t c e Zero = let a = each_of (near_tests t c) e in (is_le _ _ a.0, is_le _ _ a.1.0)
near_of t c e One = let a = each_of (near_tests t c) e in (is_le _ _ a.1.1.0, is_le _ _ a.1.1.1.0)
near_of t c e Two = let a = each_of (near_tests t c) e in (is_le _ _ a.1.1.1.1.0, is_le _ _ a.1.1.1.1.1.0)

pub near_at : (c : Place → ℕ) (q : Place) (t : ℕ) → Near c → ((x : Place) → (t ≤ at c q t x + 50) × (at c q t x ≤ t + 50)) → Near (at c q t)
near_at c Zero t h n Zero y = (n y).0
near_at c Zero t h n One Zero = (n One).1
near_at c Zero t h n One One = h One One
near_at c Zero t h n One Two = h One Two
near_at c Zero t h n Two Zero = (n Two).1
near_at c Zero t h n Two One = h Two One
near_at c Zero t h n Two Two = h Two Two
near_at c One t h n One y = (n y).0
near_at c One t h n Zero One = (n Zero).1
near_at c One t h n Zero Zero = h Zero Zero
near_at c One t h n Zero Two = h Zero Two
near_at c One t h n Two One = (n Two).1
near_at c One t h n Two Zero = h Two Zero
near_at c One t h n Two Two = h Two Two
near_at c Two t h n Two y = (n y).0
near_at c Two t h n Zero Two = (n Zero).1
near_at c Two t h n Zero Zero = h Zero Zero
near_at c Two t h n Zero One = h Zero One
near_at c Two t h n One Two = (n One).1
near_at c Two t h n One Zero = h One Zero
near_at c Two t h n One One = h One One

pub later_whole : (g : Group Entry) → Whole g → (clock : Place → ℕ) → ((x : Place) → g.clock x ≤ clock x) → Near clock → Whole (record g { clock = clock })
later_whole g h clock later near = record {
  ok = later_group g h.ok clock later;
  settled = record { server = h.settled.server; packet = h.settled.packet };
  bases = record { server = h.bases.server; page = h.bases.page; join = h.bases.join; packet = h.bases.packet };
  reported = record { each = h.reported.each };
  answers = record { each = h.answers.each };
  books = record { list = h.books.list; book = h.books.book; updates = h.books.updates };
  within = record { server = h.within.server; delta = h.within.delta; list = h.within.list; packet = h.within.packet };
  tidy = record { each = h.tidy.each };
  near = near;
}

-- no fact speaks of the group's delta but that of its limits
pub delta_whole : (g : Group Entry) → Whole g → (d : ℕ) → IsDelta d → Whole (record g { delta = d })
delta_whole g h d is = record {
  ok = record { server = h.ok.server; page = h.ok.page; pair = h.ok.pair; join = h.ok.join; packet = h.ok.packet; first_view = h.ok.first_view; late = h.ok.late; committed = h.ok.committed };
  settled = record { server = h.settled.server; packet = h.settled.packet };
  bases = record { server = h.bases.server; page = h.bases.page; join = h.bases.join; packet = h.bases.packet };
  reported = record { each = h.reported.each };
  answers = record { each = h.answers.each };
  books = record { list = h.books.list; book = h.books.book; updates = h.books.updates };
  within = record { server = h.within.server; delta = is; list = h.within.list; packet = h.within.packet };
  tidy = record { each = h.tidy.each };
  near = h.near;
}

-- marks that know of 2000 may be old ones
old_server : (page : ℕ → Page Entry) (joins : List JoinMade) (committed : List Entry) (clock : ℕ) (q : Place) (s : Server Entry) → s.longest ≡ Some 2000 → ServerOk page joins committed clock q s → ServerOk page joins committed clock q (record s { longest = None })
old_server page joins committed clock q s e h =
    let l = h.logs in
    let m = h.modes in
    record {
      views = h.views;
      logs = record { log = l.log; lb_sure = l.lb_sure; saved = l.saved; order = l.order; empty = l.empty; served = l.served; saved_order = l.saved_order };
      modes = record { active = m.active; plan = m.plan; leads = m.leads; follows = m.follows; waits = m.waits; heard = m.heard; joining = m.joining; pulls = m.pulls };
      duty = h.duty;
      chose = h.chose;
      outside = h.outside;
      tells = h.tells;
      promise = λ v. subst (λ (l : Option ℕ). Promised q s.up s.horizon clock l v (page v)) e (h.promise v);
    }

pub old_marks_whole : (g : Group Entry) → Whole g → ((q : Place) → (g.server q).longest ≡ Some 2000) → Whole (with_old_marks g)
old_marks_whole g h e = record {
  ok = record {
    server = λ q. old_server g.page g.joins g.committed (g.clock q) q (g.server q) (e q) (h.ok.server q);
    page = h.ok.page;
    pair = h.ok.pair;
    join = h.ok.join;
    packet = h.ok.packet;
    first_view = h.ok.first_view;
    late = h.ok.late;
    committed = h.ok.committed;
  };
  settled = record { server = λ q. let x = h.settled.server q in record { settled = x.settled; count = x.count }; packet = h.settled.packet };
  bases = record { server = λ q. let x = h.bases.server q in record { log = x.log; saved = x.saved; acked = x.acked; heard = x.heard }; page = h.bases.page; join = h.bases.join; packet = h.bases.packet };
  reported = record {
    each = λ q. let x = h.reported.each q in record {
      log = x.log;
      saved = x.saved;
      same = x.same;
      none = x.none;
      role = x.role;
      witness = x.witness;
      witness_saved = x.witness_saved;
    };
  };
  answers = record { each = h.answers.each };
  books = record { list = h.books.list; book = h.books.book; updates = h.books.updates };
  within = record { server = λ q. let x = h.within.server q in record { count = x.count; items = x.items; saved = x.saved; longest = (omega arith, omega arith); delta = subst (λ (l : Option ℕ). (g.server q).up ≡ true → IsDelta (g.server q).delta × ((g.server q).delta ≤ longest_of l)) (e q) x.delta }; delta = h.within.delta; list = h.within.list; packet = h.within.packet };
  tidy = record { each = λ q. let x = h.tidy.each q in record { report = x.report; plan = x.plan; pulls = x.pulls; heard = x.heard; acks = x.acks; lost = x.lost; empty = x.empty } };
  near = h.near;
}

-- a packet that was sent
pub sent_known : (g : Group Entry) → Whole g → (n : ℕ) (p : Packet Entry) → numbered g.packets n ≡ Some p → Known g p.to (Comes p.from p.body)
sent_known g h n p = by_if (λ (o : Option (Packet Entry)). o ≡ Some p → Known g p.to (Comes p.from p.body)) (nat_lt n (length g.packets)) _ None
    (λ _ e. (
      packet_at (PacketOk g.page g.joins g.committed) g.packets (length g.packets - suc n) p e h.ok.packet,
      (
        packet_at (λ (p : Packet Entry). SettledBody g.page p.body) g.packets (length g.packets - suc n) p e h.settled.packet,
        packet_at (λ (p : Packet Entry). BasesBody (λ x. (g.server x).lb) g.page p.body) g.packets (length g.packets - suc n) p e h.bases.packet,
        packet_at (λ (p : Packet Entry). BodyWithin p.body) g.packets (length g.packets - suc n) p e h.within.packet,
      ),
    ))
    (λ _ e. cc)

pub boot_goes : (g : Group Entry) → Whole g → (q : Place) → Goes g q (g.server q) (Booting g.delta ∷ [])
boot_goes g h q = goes_one g q (g.server q) (Booting g.delta) (good_of g h q) (
  tt,
  tt,
  h.within.delta,
  tt,
) (boot_kept g h.ok q (g.server q) refl g.delta)

boot_whole : (g : Group Entry) → Whole g → (q : Place) → Whole (moved_by g q (g.server q) (Booting g.delta ∷ []))
boot_whole g h q = moves_whole g q (Booting g.delta ∷ []) (boot_goes g h q)

pub happens_whole : (size : List Entry → Entry → ℕ) (g : Group Entry) → Whole g → (h : Happening) → Whole (happens size g h)
happens_whole size g ok (At q d) = steps_whole size g ok q (Does d) tt
happens_whole size g ok (Deliver n) = came (numbered g.packets n) refl
  where
    came : (o : Option (Packet Entry)) → numbered g.packets n ≡ o → Whole (delivered size g o)
    came None e = ok
    came (Some p) e = steps_whole size g ok p.to (Comes p.from p.body) (sent_known g ok n p e)
happens_whole size g ok (CutAt q d) = cut_whole size g ok q (Does d) tt
happens_whole size g ok (CutDeliver n) = came (numbered g.packets n) refl
  where
    came : (o : Option (Packet Entry)) → numbered g.packets n ≡ o → Whole (cut_delivered size g o)
    came None e = ok
    came (Some p) e = cut_whole size g ok p.to (Comes p.from p.body) (sent_known g ok n p e)
happens_whole size g ok (Boot q) = by_if (λ (g : Group Entry). Whole g) (g.server q).up g _ (λ _. ok) (λ _. boot_whole g ok q)
happens_whole size g ok (Clock q t) = by_if (λ (g : Group Entry). Whole g) (all_of (clock_tests g q t)) _ g
    (λ x.
    let a = each_of (clock_tests g q t) x in
    let later = each_at (λ y c. g.clock y ≤ c) g.clock q t (λ y. le_refl _) (is_le (g.clock q) t a.0) in
    later_whole g ok (at g.clock q t) later (near_at g.clock q t ok.near (near_of t (at g.clock q t) a.1.0)))
    (λ _. ok)
happens_whole size g ok (Advance d) = later_whole g ok (λ x. g.clock x + d) (λ x. omega arith) (λ x y. let a = ok.near x y in omega arith)
happens_whole size g ok (Delta d) = by_if (λ (g : Group Entry). Whole g) (all_of (delta_tests d)) _ g
    (λ x. let a = each_of (delta_tests d) x in delta_whole g ok d (is_le 500 d a.0, is_le d 100000 a.1.0))
    (λ _. ok)

only_zero : (v : ℕ) → (first_page v).formed ≡ true → v ≡ 0
only_zero zero e = refl
only_zero (suc n) e = absurd (true≢false (sym e))

first_sure : Sure first_page [] 0 0
first_sure = sure_zero first_page [] 0 refl

first_until : (V n : ℕ) → (first_page V).until ≤ n
first_until zero n = zero-le
first_until (suc V) n = zero-le

first_inside : (q : Place) → (first_role q ≡ Outside → ⊥) → IsIn S01 q
first_inside Zero n = tt
first_inside One n = tt
first_inside Two n = absurd (n refl)

first_outside : (q : Place) → first_role q ≡ Outside → q ≡ Two
first_outside Zero e = cc
first_outside One e = cc
first_outside Two e = refl

first_saved : (v : Saved Entry) → Some (record { base = 0; cp = 0; items = [] }) ≡ Some v → record { base = 0; cp = 0; items = [] } ≡ v
first_saved v e = cc

first_server : (q : Place) → ServerOk first_page [] [] 0 q (down (first_mark Entry 2000 q))
first_server q = record {
  views = record {
    order = le_refl _;
    formed = refl;
    promises = λ w f i. le_of_eq (only_zero w f);
    into = λ w f i. le_of_eq (only_zero w f);
    own = λ w f i. le_of_eq (only_zero w f);
    joined = λ j i e. absurd i;
    ahead_of_leader = λ V w lt f f'. let z = only_zero w f' in absurd (omega arith);
    ahead_of_partner = λ V w lt f f'. let z = only_zero w f' in absurd (omega arith);
  };
  logs = record {
    log = λ x. cc;
    lb_sure = first_sure;
    saved = λ v e r. subst (λ (v : Saved Entry). LogOk first_page [] q 0 v.base v.cp v.items) (first_saved v e) (record {
      base_cp = le_refl _;
      cp_top = le_refl _;
      holds = record { storer = first_inside q r; from_start = le_refl _; held_twice = le_refl _; within = le_refl _; all = λ _. refl };
      part = λ k l. absurd (omega arith);
      sure = first_sure;
    });
    order = λ x. cc;
    empty = λ x. cc;
    served = λ x. cc;
    saved_order = λ v e. subst (λ (v : Saved Entry). (v.base ≤ 0) × (0 ≤ v.cp)) (first_saved v e) (le_refl _, le_refl _);
  };
  modes = record { active = λ a. absurd a; plan = λ a. absurd a; leads = λ x. cc; follows = λ x. cc; waits = λ x. cc; heard = λ x lb e. absurd (none_heard x lb e); joining = λ a. absurd a; pulls = λ x. cc };
  duty = λ t e. cc;
  chose = λ v p e. cc;
  outside = λ e. (first_outside q e, inl refl);
  tells = λ a. absurd a;
  promise = λ V f x. (λ u. cc, first_until V _);
}

first_closed : (w : ℕ) → (first_page w).opened ≡ true → (first_page w).plan.horizon + 50 ≤ 0
first_closed zero o = absurd (true≢false (sym o))
first_closed (suc n) o = absurd (true≢false (sym o))

first_page_ok : (w : ℕ) → (first_page w).formed ≡ true → PageOk first_page [] [] w (first_page w)
first_page_ok zero f = record {
  formed = refl;
  origin = refl;
  earlier = λ l. absurd (omega arith);
  start_within = le_refl _;
  start_origin = le_refl _;
  begins = λ k l. refl;
  base_sure = first_sure;
  cp_sure = first_sure;
  kept_within = le_refl _;
  kept_later = λ _. refl;
  start_kept = λ _. le_refl _;
  opened_leader = λ _. refl;
  opened_partner = λ _. refl;
  fresh = λ _. refl;
  storers_joined = λ l. absurd (omega arith);
  source = λ l. absurd (omega arith);
}
first_page_ok (suc n) f = absurd (true≢false (sym f))

first_low : (q : Place) → BasesAt (λ x. 0) first_page (down (first_mark Entry 2000 q))
first_low q = record {
  log = λ l. cc;
  saved = λ v e. subst (λ (v : Saved Entry). Under (λ x. 0) v.base) (first_saved v e) (le_refl _, le_refl _);
  acked = λ o. cc;
  heard = λ x lb e. absurd (none_heard x lb e);
}

first_reported : (q : Place) → ReportedAt [] q (down (first_mark Entry 2000 q))
first_reported q = record {
  log = λ l. cc;
  saved = λ v e r j i. absurd i;
  same = λ l. cc;
  none = λ up. cc;
  role = first_can q;
  witness = λ two l. cc;
  witness_saved = λ two v e r. zero-le;
}
  where
    first_can : (q : Place) → (first_role q ≡ Outside → ⊥) → can_have q (first_role q) ≡ true
    first_can Zero r = refl
    first_can One r = refl
    first_can Two r = absurd (r refl)

first_base : (w : ℕ) → (first_page w).plan.base ≤ 0
first_base zero = le_refl _
first_base (suc n) = le_refl _

first_list : (w : ℕ) → (first_page w).list ≡ []
first_list zero = refl
first_list (suc n) = refl

new_whole : Whole new_disks
new_whole = record {
  ok = record {
    server = first_server;
    page = first_page_ok;
    pair = λ V w lt f f'. let z = only_zero w f' in absurd (omega arith);
    join = λ j i. absurd i;
    packet = tt;
    first_view = refl;
    late = λ w f o z. first_closed w o;
    committed = (0, refl, first_sure);
  };
  settled = record { server = λ q. record { settled = ⊎_elim (λ x. cc) (λ x. cc); count = λ x. cc }; packet = tt };
  bases = record { server = first_low; page = λ w f. (first_base w, first_base w); join = λ j i l. absurd i; packet = tt };
  reported = record { each = first_reported };
  answers = record { each = λ a i. absurd i };
  books = record { list = λ w f. subst (λ (l : List Entry). UpdatesFrom [] l) (sym (first_list w)) tt; book = tt; updates = refl };
  within = record {
    server = λ q. record { count = zero-le; items = zero-le; saved = λ v e. subst (λ (v : Saved Entry). length v.items ≤ room) (first_saved v e) zero-le; longest = (omega arith, omega arith); delta = λ u. cc };
    delta = (omega arith, omega arith);
    list = λ w f. subst (λ (l : List Entry). length l ≤ limit) (sym (first_list w)) zero-le;
    packet = tt;
  };
  tidy = record { each = λ q. down_tidy (first_mark Entry 2000 q) };
  near = λ x y. omega arith;
}

booted_whole : (g : Group Entry) → Whole g → (q : Place) → Whole (boot g q)
booted_whole g h q = by_if (λ (g : Group Entry). Whole g) (g.server q).up g _ (λ _. h) (λ _. boot_whole g h q)

pub first_whole : Whole first_group
first_whole = booted_whole _ (booted_whole _ (booted_whole new_disks new_whole Zero) One) Two

pub run_whole : (size : List Entry → Entry → ℕ) (hs : List Happening) (g : Group Entry) → Whole g → Whole (run size g hs)
run_whole size [] g h = h
run_whole size (x ∷ hs) g h = run_whole size hs (happens size g x) (happens_whole size g h x)
