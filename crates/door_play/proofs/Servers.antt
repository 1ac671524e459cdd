-- The two servers of an open view between calls, and what each step of theirs does. View 1.0 has
-- the
-- number 3, the clocks stand at 2050, and promises last to 4050.
use Rattle.std.proofs.Common.{◌≡◌, ℕ, ◌+◌, ◌-◌, ◌<◌, ◌≤◌, true, false, List, [], ◌∷◌, ◌++◌, length, take, drop, Option, None, Some, max, min, refl, ap, ◌∙◌, arith, nat_lt, nat_le, ◌==◌, not, length-append}
use Rattle.std.specs.Prelude.{IfSome}
use Rattle.std.proofs.Math.ListN.{drop_of_length-le}
use Rattle.std.proofs.Math.Seq.{drop-append_seam}
use Rattle.harp_types.specs.declared.call.Call.{Call}
use Rattle.harp_types.specs.declared.cred.Cred.{Cred}
use Rattle.harp_types.specs.Update.{is_update}
use Rattle.file_tree.specs.Book.{Entry, last_of}
use Rattle.group_rules.specs.Ask.{append, new_entry, read_entry, refuse, update_moves}
use Rattle.group_rules.specs.Disk.{flush, flush_tests}
use Rattle.group_rules.specs.Effects.{taken}
use Rattle.group_rules.specs.Limits.{limit, room}
use Rattle.group_rules.specs.Misfits.{led_tests, misfits, proper, room_tests, told_tests}
use Rattle.group_rules.specs.Moves.{Appending, Applying, Committing, Flushing, Heeding, Move, Noting, Reading, Saying, Sending, acts}
use Rattle.group_rules.specs.Open.{and_then, base_tests, rebase, try_open}
use Rattle.group_rules.specs.Places.{One, Place, S01, Zero, all_of, nobody, partner, same}
use Rattle.group_rules.specs.Replicate.{answers, on_ack, on_event}
use Rattle.group_rules.specs.State.{Ack, Answers, Beat, Chose, Event, Follows, Leads, Live, Log, Message, NoDuty, Old, Open, Plan, Server, no_report}
use Rattle.group_rules.specs.Step.{Apply, Ask, Comes, Does, Flush, Input, Tick, rule, step}
use Rattle.group_rules.specs.Tick.{again, duties, events}
use Rattle.group_rules.proofs.Tests.{all_true, by_if, each_of, eq_is, if_is, if_not, is_lt, le_is, lt_is}
use Rattle.std.proofs.lemmas.Bool.Decides.{nat_tests}

-- ---- the two servers

-- the plan of view 1.0
abbrev pub plan : Plan
plan = record { storers = S01; source = Zero; base = 0; cp = 0; start = 0; horizon = 2000 }

-- the leader of view 1.0
abbrev pub leading : (base lb ap cp : ℕ) → List Entry → (told_top told_lb : ℕ) → Server Entry
leading base lb ap cp items told_top told_lb = record {
  up = true;
  promised = 3;
  accepted = 3;
  role = Leads One;
  lb = lb;
  saved = None;
  longest = Some 2000;
  held = Log;
  base = base;
  ap = ap;
  cp = cp;
  items = items;
  mode = Open;
  report = no_report;
  plan = plan;
  wanted_from = 0;
  staged = [];
  heard = nobody;
  told_top = told_top;
  told_lb = told_lb;
  grant = 4050;
  served = 0;
  duty = Chose 3 plan;
  delta = 2000;
  horizon = 2000;
}

-- its partner
abbrev pub following : (base lb ap cp : ℕ) → List Entry → Server Entry
following base lb ap cp items = record {
  up = true;
  promised = 3;
  accepted = 3;
  role = Follows Zero;
  lb = lb;
  saved = None;
  longest = Some 2000;
  held = Log;
  base = base;
  ap = ap;
  cp = cp;
  items = items;
  mode = Live;
  report = no_report;
  plan = plan;
  wanted_from = 0;
  staged = [];
  heard = nobody;
  told_top = 0;
  told_lb = 0;
  grant = 0;
  served = 0;
  duty = NoDuty;
  delta = 2000;
  horizon = 4050;
}

pub lt_not : (a b : ℕ) → b ≤ a → nat_lt a b ≡ false
lt_not a b h = grind (arith, nat_tests)

-- ---- one step, by its rule

abbrev pub Sizes : Type 0
Sizes = List Entry → Entry → ℕ

-- a rule's moves, and then the base's
pub step_is : (size : Sizes) (q : Place) (list : List Entry) (s : Server Entry) (i : Input)
    (ms more : List (Move Entry)) → rule size q 2050 list s i ≡ ms
    → rebase (acts q 2050 s ms) ≡ more → step size q 2050 list s i ≡ ms ++ more
step_is size q list s i ms more r b =
    ap (λ (x : List (Move Entry)). x ++ rebase (acts q 2050 s x)) r
    ∙ ap (λ (x : List (Move Entry)). ms ++ x) b

-- a base that is as far as both disks stays
pub no_rebase : (s : Server Entry) → min s.lb s.told_lb ≤ s.base → rebase s ≡ []
unfolding all_of
no_rebase s l = by_if (λ (x : List (Move Entry)). x ≡ []) (all_of (base_tests s)) _ _
    (λ t. let u = each_of (base_tests s) t in
    let v = is_lt s.base (min s.lb s.told_lb) u.1.1.0 in absurd (omega arith)) (λ f. refl)

-- ---- an ask of an update

new_update : (s : Server Entry) (e : Entry) (last : Option Entry)
    → IfSome last (λ l. l.number < e.number) → update_moves s e last ≡ append s e
new_update s e None h = refl
new_update s e (Some l) h =
    let a : (e.number == l.number) ≡ false = grind (arith, nat_tests) in
    let b : nat_lt e.number l.number ≡ false = grind (arith, nat_tests) in
    if_not (e.number == l.number) _ _ a
    ∙ if_not (nat_lt e.number l.number) (refuse e.client e.number Old) (append s e) b

has_room : (s : Server Entry) (e : Entry) → length s.items < 32768
    → s.base + length s.items < 4611686018427387903
    → append s e ≡ Appending e
    ∷ Sending (partner s.plan.storers) (Event s.accepted
    (s.base + length s.items + 1) s.cp s.base e)
    ∷ []
unfolding limit room
has_room s e few low =
    let a : nat_le room (length s.items) ≡ false = grind (arith, nat_tests) in
    let b : nat_le limit (s.base + length s.items) ≡ false = grind (arith, nat_tests) in
    rw (a, b) refl

pub asks_update : (size : Sizes) (es items : List Entry) (k l a p t b number : ℕ) (cred : Cred)
    (c : Call) → is_update c ≡ true → IfSome (last_of 0 es) (λ last. last.number < number)
    → length items < 32768 → k + length items < 4611686018427387903 → min l b ≤ k
    → step size Zero 2050 es (leading k l a p items t b) (Does (Ask 0 number cred c))
    ≡ Appending (new_entry 2050 es 0 number cred c)
    ∷ Sending One (Event 3 (k + length items + 1) p k (new_entry 2050 es 0 number cred c)) ∷ []
unfolding all_of
asks_update size es items k l a p t b number cred c u old few low base =
    let s = leading k l a p items t b in
    let e = new_entry 2050 es 0 number cred c in
    let ms : List (Move Entry) = Appending e ∷ Sending One (Event 3
    (k + length items + 1) p k e) ∷ [] in
    let r : rule size Zero 2050 es s (Does (Ask 0 number cred c)) ≡ ms =
    if_is (is_update c) _ _ u ∙ new_update s e (last_of 0 es) old ∙ has_room s e few low in
    step_is size Zero es s (Does (Ask 0 number cred c)) ms [] r
    (no_rebase (acts Zero 2050 s ms) base)

-- ---- an ask of a read

pub asks_read : (size : Sizes) (list items : List Entry) (k l a p t b number : ℕ) (cred : Cred)
    (c : Call) → is_update c ≡ false → min l b ≤ k
    → step size Zero 2050 list (leading k l a p items t b) (Does (Ask 0 number cred c))
    ≡ Reading p (read_entry p list 0 number cred c) ∷ []
unfolding all_of
asks_read size list items k l a p t b number cred c u base =
    let s = leading k l a p items t b in
    let ms : List (Move Entry) = Reading p (read_entry p list 0 number cred c) ∷ [] in
    let r : rule size Zero 2050 list s (Does (Ask 0 number cred c)) ≡ ms =
    if_not (is_update c) _ _ u in
    step_is size Zero list s (Does (Ask 0 number cred c)) ms [] r
    (no_rebase (acts Zero 2050 s ms) base)

-- ---- an Event or a Beat at the partner

room_is : (n : ℕ) → n ≤ 32768 → nat_le n room ≡ true
unfolding room
room_is n h = grind (arith, nat_tests)

pub event_comes : (size : Sizes) (list items : List Entry) (j l a c i p k : ℕ) (e : Entry)
    → k ≤ l → i ≡ j + length items + 1 → j + length items + 1 - k ≤ 32768
    → step size One 2050 list (following j l a c items) (Comes Zero (Event 3 i p k e))
    ≡ Heeding (items ++ e ∷ []) p k
    ∷ Sending Zero (Ack 3 (j + length (items ++ e ∷ [])) l 4050) ∷ []
unfolding all_of
event_comes size list items j l a c i p k e led next few =
    let s = following j l a c items in
    let m : Message Entry = Event 3 i p k e in
    let ms : List (Move Entry) = Heeding (items ++ e ∷ []) p k
    ∷ Sending Zero (Ack 3 (j + length (items ++ e ∷ [])) l 4050) ∷ [] in
    let took : taken s i e ≡ items ++ e ∷ [] = if_is (i == j + length items + 1) _ _
    (eq_is _ _ next) in
    let long = length-append items (e ∷ []) in
    let low : nat_le k l ≡ true = le_is k l led in
    let space : nat_le (length (taken s i e) - (k - j)) room ≡ true =
    ap (λ (es : List Entry). nat_le (length es - (k - j)) room) took ∙
    room_is _ (omega (arith, long)) in
    let fits : all_of (not (same Zero One) ∷ proper One s Zero m) ≡ true =
    all_true (not (same Zero One) ∷ proper One s Zero m) (
      refl,
      (
        all_true (led_tests s Zero k) (refl, (low, tt)),
        (all_true (room_tests s k (taken s i e)) (space, tt), tt),
      ),
    ) in
    let r : rule size One 2050 list s (Comes Zero m) ≡ ms =
    if_not (misfits One s Zero m) _ _ (ap not fits)
    ∙ ap (λ (es : List Entry). and_then One 2050 s (on_event One 2050 s Zero 3 p k es)
    (try_open One 2050)) took in
    step_is size One list s (Comes Zero m) ms [] r refl

pub beat_comes : (size : Sizes) (list items : List Entry) (j l a c p k : ℕ) → k ≤ l
    → step size One 2050 list (following j l a c items) (Comes Zero (Beat 3 p k))
    ≡ Heeding items p k ∷ Sending Zero (Ack 3 (j + length items) l 4050) ∷ []
unfolding all_of
beat_comes size list items j l a c p k led =
    let s = following j l a c items in
    let m : Message Entry = Beat 3 p k in
    let ms : List (Move Entry) = Heeding items p k ∷ Sending Zero (Ack 3
    (j + length items) l 4050) ∷ [] in
    let low : nat_le k l ≡ true = le_is k l led in
    let fits : all_of (not (same Zero One) ∷ proper One s Zero m) ≡ true =
    all_true (not (same Zero One) ∷ proper One s Zero m)
    (refl, (all_true (led_tests s Zero k) (refl, (low, tt)), tt)) in
    let r : rule size One 2050 list s (Comes Zero m) ≡ ms =
    if_not (misfits One s Zero m) _ _ (ap not fits) in
    step_is size One list s (Comes Zero m) ms [] r refl

-- ---- an Ack at the leader

last_one : (items : List Entry) (e : Entry) (d n : ℕ) → d ≡ length items → n ≡ 1
    → take n (drop d (items ++ e ∷ [])) ≡ e ∷ []
last_one items e d n x y =
    ap (λ (d : ℕ). take n (drop d (items ++ e ∷ []))) x
    ∙ ap (take n) (drop-append_seam items (e ∷ []))
    ∙ ap (λ (n : ℕ). take n (e ∷ [])) y

told_fits : (k l a p : ℕ) (items : List Entry) (t b u n : ℕ) → u ≤ k + length items → n ≤ u
    → misfits Zero (leading k l a p items t b) One (Ack 3 u n 4050) ≡ false
unfolding all_of
told_fits k l a p items t b u n within low =
    let s = leading k l a p items t b in
    let m : Message Entry = Ack 3 u n 4050 in
    let fits : all_of (not (same One Zero) ∷ proper Zero s One m) ≡ true =
    all_true (not (same One Zero) ∷ proper Zero s One m)
    (refl, (all_true (told_tests s One u n) (refl, (le_is _ _ within, (le_is _ _ low, tt))), tt)) in
    ap not fits

pub ack_comes : (size : Sizes) (list items : List Entry) (k l a p t b u n : ℕ) (e : Entry)
    → u ≡ p + 1 → p ≡ k + length items → n ≤ u → min l (max b n) ≤ k
    → step size Zero 2050 list (leading k l a p (items ++ e ∷ []) t b) (Comes One (Ack 3 u n 4050))
    ≡ Noting u n 4050 ∷ Committing u ∷ Saying (Answers (p + 1) e) ∷ []
unfolding all_of
ack_comes size list items k l a p t b u n e next end low base =
    let s = leading k l a p (items ++ e ∷ []) t b in
    let m : Message Entry = Ack 3 u n 4050 in
    let ms : List (Move Entry) = Noting u n 4050 ∷ Committing u ∷ Saying (Answers (p + 1) e) ∷ [] in
    let long = length-append items (e ∷ []) in
    let above : nat_lt p u ≡ true = lt_is p u (omega arith) in
    let one : take (u - p) (drop (p - k) (items ++ e ∷ [])) ≡ e ∷ [] =
    last_one items e (p - k) (u - p) (omega arith) (omega arith) in
    let does : on_ack s 3 u n 4050 ≡ ms =
    ap (λ (x : List (Move Entry)). Noting u n 4050 ∷ x)
    (if_is (nat_lt p u) _ _ above ∙ ap (λ (es : List Entry). Committing u ∷ answers p es) one) in
    let r : rule size Zero 2050 list s (Comes One m) ≡ ms =
    if_not (misfits Zero s One m) _ _
    (told_fits k l a p (items ++ e ∷ []) t b u n (omega (arith, long)) low)
    ∙ ap (λ (x : List (Move Entry)). and_then Zero 2050 s x (try_open Zero 2050)) does in
    step_is size Zero list s (Comes One m) ms [] r (no_rebase (acts Zero 2050 s ms) base)

-- an Ack of what is committed; the base may move
pub ack_again : (size : Sizes) (list items : List Entry) (k l a p t b u n : ℕ)
    → u ≤ p → u ≤ k + length items → n ≤ u
    → step size Zero 2050 list (leading k l a p items t b) (Comes One (Ack 3 u n 4050))
    ≡ Noting u n 4050 ∷ rebase (leading k l a p items (max t u) (max b n))
unfolding all_of
ack_again size list items k l a p t b u n known within low =
    let s = leading k l a p items t b in
    let m : Message Entry = Ack 3 u n 4050 in
    let ms : List (Move Entry) = Noting u n 4050 ∷ [] in
    let does : on_ack s 3 u n 4050 ≡ ms =
    ap (λ (x : List (Move Entry)). Noting u n 4050 ∷ x)
    (if_not (nat_lt p u) _ _ (lt_not p u known)) in
    let r : rule size Zero 2050 list s (Comes One m) ≡ ms =
    if_not (misfits Zero s One m) _ _ (told_fits k l a p items t b u n within low)
    ∙ ap (λ (x : List (Move Entry)). and_then Zero 2050 s x (try_open Zero 2050)) does in
    step_is size Zero list s (Comes One m) ms _ r refl

-- ---- a tick of the leader

pub ticks : (size : Sizes) (list items : List Entry) (k l a p t b : ℕ) → k + length items ≤ t
    → min l b ≤ k
    → step size Zero 2050 list (leading k l a p items t b) (Does Tick)
    ≡ Sending One (Beat 3 p k) ∷ []
unfolding all_of
ticks size list items k l a p t b told base =
    let s = leading k l a p items t b in
    let ms : List (Move Entry) = Sending One (Beat 3 p k) ∷ [] in
    let few : length items ≤ max k t - k = omega arith in
    let none : drop (max k t - k) items ≡ [] = drop_of_length-le items few in
    let r : rule size Zero 2050 list s (Does Tick) ≡ ms =
    ap (λ (es : List Entry). and_then Zero 2050 s
    (Sending One (Beat 3 p k) ∷ events One 3 p k (max k t) (take 64 es))
    (λ s. duties Zero s s.duty ++ again Zero s)) none in
    step_is size Zero list s (Does Tick) ms [] r (no_rebase (acts Zero 2050 s ms) base)

-- ---- the disks

pub leader_applies : (size : Sizes) (list items : List Entry) (k l a p t b : ℕ) → min l b ≤ k
    → step size Zero 2050 list (leading k l a p items t b) (Does (Apply 64))
    ≡ Applying (min (a + 64) p) ∷ []
unfolding all_of
leader_applies size list items k l a p t b base =
    let s = leading k l a p items t b in
    let ms : List (Move Entry) = Applying (min (a + 64) p) ∷ [] in
    step_is size Zero list s (Does (Apply 64)) ms [] refl (no_rebase (acts Zero 2050 s ms) base)

pub partner_applies : (size : Sizes) (list items : List Entry) (j l a c : ℕ)
    → step size One 2050 list (following j l a c items) (Does (Apply 64))
    ≡ Applying (min (a + 64) c) ∷ []
unfolding all_of
partner_applies size list items j l a c = refl

-- a flush where the disk is behind, and where it isn't
flush_is : (q : Place) (s : Server Entry) → all_of (flush_tests q s) ≡ true
    → flush q s ≡ Flushing ∷ []
flush_is q s e = if_is (all_of (flush_tests q s)) _ _ e

flush_not : (q : Place) (s : Server Entry) → s.ap ≤ s.lb → flush q s ≡ []
flush_not q s low = by_if (λ (x : List (Move Entry)). x ≡ []) (all_of (flush_tests q s)) _ _
    (λ e. let u = each_of (flush_tests q s) e in
    let v = is_lt s.lb s.ap u.1.1.0 in absurd (omega arith)) (λ f. refl)

pub leader_flushes : (size : Sizes) (list items : List Entry) (k l a p t b : ℕ) → l < a
    → min a b ≤ k
    → step size Zero 2050 list (leading k l a p items t b) (Does Flush) ≡ Flushing ∷ []
unfolding all_of
leader_flushes size list items k l a p t b behind base =
    let s = leading k l a p items t b in
    let ms : List (Move Entry) = Flushing ∷ [] in
    let r : rule size Zero 2050 list s (Does Flush) ≡ ms =
    flush_is Zero s (all_true (flush_tests Zero s) (refl, (refl, (lt_is l a behind, tt)))) in
    step_is size Zero list s (Does Flush) ms [] r (no_rebase (acts Zero 2050 s ms) base)

pub leader_rests : (size : Sizes) (list items : List Entry) (k l a p t b : ℕ) → a ≤ l
    → min l b ≤ k
    → step size Zero 2050 list (leading k l a p items t b) (Does Flush) ≡ []
leader_rests size list items k l a p t b low base =
    let s = leading k l a p items t b in
    step_is size Zero list s (Does Flush) [] [] (flush_not Zero s low) (no_rebase s base)

pub partner_flushes : (size : Sizes) (list items : List Entry) (j l a c : ℕ) → l < a
    → step size One 2050 list (following j l a c items) (Does Flush) ≡ Flushing ∷ []
unfolding all_of
partner_flushes size list items j l a c behind =
    let s = following j l a c items in
    let ms : List (Move Entry) = Flushing ∷ [] in
    let r : rule size One 2050 list s (Does Flush) ≡ ms =
    flush_is One s (all_true (flush_tests One s) (refl, (refl, (lt_is l a behind, tt)))) in
    step_is size One list s (Does Flush) ms [] r refl

pub partner_rests : (size : Sizes) (list items : List Entry) (j l a c : ℕ) → a ≤ l
    → step size One 2050 list (following j l a c items) (Does Flush) ≡ []
unfolding all_of
partner_rests size list items j l a c low =
    let s = following j l a c items in
    step_is size One list s (Does Flush) [] [] (flush_not One s low) refl
