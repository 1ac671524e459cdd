-- Each step that is taken keeps the group within its bounds, which grow by the steps that are told.
use Rattle.std.proofs.Common.{◌≡◌, ℕ, zero, suc, ◌+◌, ◌-◌, ◌*◌, ◌/◌, ◌<◌, ◌≤◌, true, false, Bool, List, [], ◌∷◌, length, take, max, fold, Option, Some, None, refl, sym, subst, arith, true≢false, nat_lt, slice_get, if◌then◌else◌}
use Rattle.std.proofs.lemmas.List.{length-take}
use Rattle.harp_types.specs.Update.{is_update}
use Rattle.harp_types.specs.declared.call.Call.{Call}
use Rattle.harp_types.specs.declared.cred.Cred.{Cred}
use Rattle.harp_types.specs.declared.server.ServerId.{ServerId}
use Rattle.trace_types.specs.declared.step.Step.{Step}
use Rattle.trace_types.specs.declared.step.Step.TheVariants as step
use Rattle.trace_types.specs.declared.line.LineFault.TheVariants as fault
use Rattle.text_spelling.specs.StepFits.{StepFits}
use Rattle.file_tree.specs.Book.{Entry, last_stamp, stamp_next}
use Rattle.group_rules.specs.Limits.{delta_tests}
use Rattle.group_rules.specs.Moves.{Booting, Falling, Move, moved_by}
use Rattle.group_rules.specs.Names.{place_of}
use Rattle.group_rules.specs.Places.{Zero, One, Two, Place, Trio, all_of, at, coordinator, get}
use Rattle.group_rules.specs.State.{Ack, Beat, Collects, Demote, Event, Fetch, Form, Formed, Give, Group, Invite, Join, JoinMade, Message, Packet, Page, Report, Server, top}
use Rattle.group_rules.specs.Step.{Apply, Ask, Comes, Crash, Does, Flush, Input, ListTree, Power, Suspect, Tick, list_of, near, numbered, step_of}
use Rattle.group_rules.proofs.Tests.{by_if}
use Rattle.group_safety.specs.Facts.{BodyOk}
use Rattle.group_safety.specs.Laws.{Whole}
use Rattle.group_safety.specs.Words.{Each}
use Rattle.group_safety.proofs.Common.{each_at}
use Rattle.group_safety.proofs.Grow.{each_map}
use Rattle.group_safety.proofs.Safe.{boot_goes, good_of, input_goes, near_of, sent_known}
use Rattle.group_safety.proofs.Steps.{Known, falls}
use Rattle.group_trace.specs.Calls.{calls_of, moves_of, passes}
use Rattle.group_trace.specs.Refusals.{clock_refusal, own_refusal}
use Rattle.group_trace.specs.Run.{delivery, group_after, is_elementary, moved_where, with_delta}
use Rattle.group_trace.specs.Scene.{Measures, Scene}
use Rattle.trace_laws.proofs.Turns.{is_up}
use Rattle.accept_laws.specs.Walks.{AskFits, EntryWithin, InputFits, MoveFits, ServerKnown, Walks}
use Rattle.accept_laws.proofs.Rules.{steps_walk}
use Rattle.accept_laws.specs.Within.{BodyIn, IsWithin, PageIn, ReportIn, ServerIn, latest}
use Rattle.accept_laws.specs.Laws.{told}
use Rattle.accept_laws.proofs.Lists.{each_here, each_take}
use Rattle.accept_laws.proofs.Moved.{within_moves}

-- ---- wider bounds

entry_more : (n n' late late' : ℕ) → n ≤ n' → late ≤ late' → (e : Entry) → EntryWithin n late e
    → EntryWithin n' late' e
entry_more n n' late late' l k e h =
    let a = h.index in
    let b = h.stamp in
    record {
      asker = h.asker;
      cred = h.cred;
      call = h.call;
      index = omega (arith, a, l);
      stamp = omega (arith, b, k);
    }

body_more : (n n' : ℕ) → n ≤ n' → (m : Message Entry) → BodyIn n m → BodyIn n' m
body_more n n' l (Invite v) h = omega (arith, h, l)
body_more n n' l (Fetch v index) h = omega (arith, h, l)
body_more n n' l (Formed v lb) h = omega (arith, h, l)
body_more n n' l (Give v index items) h = h
body_more n n' l m h = tt

page_more : (n n' late late' : ℕ) → n ≤ n' → late ≤ late' → (p : Page Entry) → PageIn n late p
    → PageIn n' late' p
page_more n n' late late' l k p h =
    let a = h.few in
    let b = h.horizon in
    record {
      few = omega (arith, a, l);
      entries = each_map (EntryWithin n late) (EntryWithin n' late')
          (entry_more n n' late late' l k) p.list h.entries;
      horizon = omega (arith, b, k);
    }

server_more : (n n' late late' : ℕ) → n ≤ n' → late ≤ late' → (s : Server Entry)
    → ServerIn n late s → ServerIn n' late' s
server_more n n' late late' l k s h =
    let a = h.count in
    let b = h.horizon in
    record { count = omega (arith, a, l); delta = h.delta; horizon = omega (arith, b, k) }

report_more : (n n' late late' : ℕ) → n ≤ n' → late ≤ late' → (t : Report) → ReportIn n late t
    → ReportIn n' late' t
report_more n n' late late' l k t h =
    let a = h.base in
    let b = h.lb in
    let c = h.cp in
    let d = h.top in
    let e = h.horizon in
    record {
      base = omega (arith, a, l);
      lb = omega (arith, b, l);
      cp = omega (arith, c, l);
      top = omega (arith, d, l);
      horizon = omega (arith, e, k);
    }

pub within_more : (n n' late late' : ℕ) → n ≤ n' → late ≤ late' → (g : Group Entry)
    → IsWithin n late g → IsWithin n' late' g
within_more n n' late late' l k g h = record {
  server = λ q. server_more n n' late late' l k (g.server q) (h.server q);
  page = λ w. page_more n n' late late' l k (g.page w) (h.page w);
  join = λ j i. report_more n n' late late' l k j.report (h.join j i);
  packet = each_map (λ (p : Packet Entry). BodyIn n p.body) (λ (p : Packet Entry). BodyIn n' p.body)
      (λ p b. body_more n n' l p.body b) g.packets h.packet;
  book = each_map (EntryWithin n late) (EntryWithin n' late') (entry_more n n' late late' l k)
      g.book h.book;
  clock = λ q. let c = h.clock q in omega (arith, c, k);
}

-- ---- what a step begins with

stamps_late : (n late : ℕ) (xs : List Entry) (start : ℕ) → start ≤ late
    → Each (EntryWithin n late) xs → fold stamp_next start xs ≤ late
stamps_late n late [] start l h = l
stamps_late n late (e ∷ xs) start l h =
    stamps_late n late xs (stamp_next start e)
    (by_if (λ (x : ℕ). x ≤ late) (is_update e.call) e.stamp start (λ _. h.0.stamp) (λ _. l)) h.1

pub known_in : (n late : ℕ) (g : Group Entry) → Whole g → IsWithin n late g → (q : Place)
    → ServerKnown late (g.server q)
known_in n late g h w q = record {
  told = λ reports e x t is.
      (w.join _ (((h.ok.server q).duty reports e).joined x t is)).horizon;
  served = λ held.
      let serves = (h.ok.server q).logs.served held in
      let start = ((h.ok.server q).logs.log held).holds.from_start in
      omega (arith, serves, start);
}

thirds : (a b n : ℕ) → a ≤ b → b / 3 ≤ n → a / 3 ≤ n
thirds a b n l k = omega (arith, l, k)

pub came_in : (n late : ℕ) (g : Group Entry) → Whole g → IsWithin n late g → (q from : Place)
    (m : Message Entry) → BodyOk g.page g.joins g.committed from q m → BodyIn n m
    → InputFits n late (g.clock q) (list_of g q) (g.server q) (Comes from m)
came_in n late g h w q from (Invite v) ok b = b
came_in n late g h w q from (Demote v) ok b =
    let low = (h.ok.server (coordinator v)).views.own v ok.0 refl in
    thirds v (g.server (coordinator v)).promised n low (w.server (coordinator v)).count
came_in n late g h w q from (Join v t) ok b = (w.join _ ok).horizon
came_in n late g h w q from m ok b = tt

pub arrived : (P : Packet Entry → Type 0) (ps : List (Packet Entry)) (k : ℕ) (p : Packet Entry)
    → Each P ps → numbered ps k ≡ Some p → P p
arrived P ps k p h =
    by_if (λ (o : Option (Packet Entry)). o ≡ Some p → P p) (nat_lt k (length ps))
    (slice_get ps (length ps - suc k)) None
    (λ _ e. each_here P ps (length ps - suc k) p e h) (λ _ e. absurd cc)

-- ---- a server's step

turn_within : (n late : ℕ) (m : Measures) (g : Group Entry) → Whole g → IsWithin n late g
    → (q : Place) (i : Input) (stop : Option ℕ) → (g.server q).up ≡ true → Known g q i
    → InputFits n late (g.clock q) (list_of g q) (g.server q) i
    → IsWithin n late (moved_by g q (g.server q) (moves_of m g stop q i))
turn_within n late m g h w q i stop up known fits =
    by_if (λ (ms : List (Move Entry)). IsWithin n late (moved_by g q (g.server q) ms))
    (passes stop (calls_of m q (g.clock q) (list_of g q) (g.server q) (step_of m.size g q i)))
    (step_of m.size g q i) (Falling ∷ [])
    (λ _. within_moves (step_of m.size g q i) n late g q (g.server q)
    (input_goes m.size g h q up i known)
    (steps_walk n late m.size q (g.clock q) (list_of g q) (g.server q) i (known_in n late g h w q)
    fits) w)
    (λ _. within_moves (Falling ∷ []) n late g q (g.server q)
    (falls g q (g.server q) (good_of g h q)) (tt, tt) w)

pub ask_fits : (n late : ℕ) (g : Group Entry) → IsWithin n late g → (q : Place) (s : Step)
    → (client number : ℕ) (cred : Cred) (call : Call) (server : ServerId)
    → StepFits (step.Ask server client number cred call)
    → AskFits (n + 1) (late + latest 1) (g.clock q) (list_of g q) client number cred call
ask_fits n late g w q s client number cred call server f =
    let p = w.page (g.server q).accepted in
    let list = (g.page (g.server q).accepted).list in
    let few = p.few in
    let cut = length-take (top (g.server q)) list in
    let last = stamps_late n late (list_of g q) 0 (omega arith)
    (each_take (EntryWithin n late) (top (g.server q)) list p.entries) in
    let clock = w.clock q in
    record {
      asker = (f.0, f.1);
      cred_fits = f.2;
      call_fits = f.3;
      next = omega (arith, few, cut);
      stamp = omega (arith, last, clock);
    }

-- ---- clocks

clock_near : (g : Group Entry) (q : Place) (reading : ℕ) → clock_refusal g q reading ≡ None
    → near reading (at g.clock q reading) ≡ true
clock_near g q reading e =
    by (nat_lt reading (g.clock q)) (near reading (at g.clock q reading)) e
  where
    by : (b c : Bool)
        → (if b then Some fault.ClockBack else (if c then None else Some fault.ClockApart)) ≡ None
        → c ≡ true
    by true c e = absurd cc
    by false true e = refl
    by false false e = absurd cc

clock_late : (late : ℕ) (g : Group Entry) (q : Place) (reading : ℕ)
    → ((x : Place) → g.clock x ≤ late) → clock_refusal g q reading ≡ None → reading ≤ late + 50
clock_late late g Zero reading h e =
    let a = (near_of reading (at g.clock Zero reading) (clock_near g Zero reading e) One).0 in
    let b = h One in
    omega (arith, a, b)
clock_late late g One reading h e =
    let a = (near_of reading (at g.clock One reading) (clock_near g One reading e) Zero).0 in
    let b = h Zero in
    omega (arith, a, b)
clock_late late g Two reading h e =
    let a = (near_of reading (at g.clock Two reading) (clock_near g Two reading e) Zero).0 in
    let b = h Zero in
    omega (arith, a, b)

with_clock : (n late late' : ℕ) (g : Group Entry) (clock : Place → ℕ) → IsWithin n late g
    → late ≤ late' → ((q : Place) → clock q ≤ late')
    → IsWithin n late' (record g { clock = clock })
with_clock n late late' g clock w l c =
    let more = within_more n n late late' (omega arith) l g w in
    record {
      server = more.server;
      page = more.page;
      join = more.join;
      packet = more.packet;
      book = more.book;
      clock = c;
    }

-- ---- each step

pub within_step : (m : Measures) (w : Scene) (n late : ℕ) → Whole w.group
    → IsWithin n late w.group → (s : Step) → own_refusal m w.group s ≡ None
    → is_elementary s ≡ true → StepFits s
    → IsWithin (n + told s) (late + latest (told s)) (group_after m w s)
within_step m w n late h k (step.Ask server client number cred call) r e f =
    let q = place_of server in
    let more = within_more n (n + 1) late (late + latest 1) (omega arith) (omega arith) w.group k in
    turn_within (n + 1) (late + latest 1) m w.group h more q (Does (Ask client number cred call))
    (w.armed q) (is_up w.group server r) tt
    (ask_fits n late w.group k q (step.Ask server client number cred call) client number cred call
    server f)
within_step m w n late h k (step.Deliver i) r e f =
    arrives (numbered w.group.packets i) refl
  where
    arrives : (o : Option (Packet Entry)) → numbered w.group.packets i ≡ o
        → IsWithin (n + 0) (late + latest 0) (moved_where w.group (delivery m w o))
    arrives None is =
        within_more n (n + 0) late (late + latest 0) (omega arith) (omega arith) w.group k
    arrives (Some p) is =
        let g = w.group in
        let more = within_more n (n + 0) late (late + latest 0) (omega arith) (omega arith) g k in
        let known = sent_known g h i p is in
        by_if (λ x. IsWithin (n + 0) (late + latest 0) (moved_where g x)) (g.server p.to).up
        (Some (p.to, moves_of m g (w.armed p.to) p.to (Comes p.from p.body))) None
        (λ up. turn_within (n + 0) (late + latest 0) m g h more p.to (Comes p.from p.body)
        (w.armed p.to) up known
        (came_in (n + 0) (late + latest 0) g h more p.to p.from p.body known.0
        (arrived (λ (x : Packet Entry). BodyIn (n + 0) x.body) g.packets i p more.packet is)))
        (λ _. more)
within_step m w n late h k (step.Pump among) r e f = absurd (true≢false (sym e))
within_step m w n late h k (step.Tick server) r e f =
    let q = place_of server in
    let more = within_more n (n + 1) late (late + latest 1) (omega arith) (omega arith) w.group k in
    turn_within (n + 1) (late + latest 1) m w.group h more q (Does Tick) (w.armed q)
    (is_up w.group server r) tt tt
within_step m w n late h k (step.Suspect server) r e f =
    let q = place_of server in
    let more = within_more n (n + 1) late (late + latest 1) (omega arith) (omega arith) w.group k in
    let count = (k.server q).count in
    turn_within (n + 1) (late + latest 1) m w.group h more q (Does Suspect) (w.armed q)
    (is_up w.group server r) tt (omega (arith, count))
within_step m w n late h k (step.Apply server most) r e f =
    let q = place_of server in
    let more = within_more n (n + 1) late (late + latest 1) (omega arith) (omega arith) w.group k in
    turn_within (n + 1) (late + latest 1) m w.group h more q (Does (Apply most)) (w.armed q)
    (is_up w.group server r) tt tt
within_step m w n late h k (step.Flush server) r e f =
    let q = place_of server in
    let more = within_more n (n + 1) late (late + latest 1) (omega arith) (omega arith) w.group k in
    turn_within (n + 1) (late + latest 1) m w.group h more q (Does Flush) (w.armed q)
    (is_up w.group server r) tt tt
within_step m w n late h k (step.List server) r e f =
    let q = place_of server in
    let more = within_more n (n + 1) late (late + latest 1) (omega arith) (omega arith) w.group k in
    turn_within (n + 1) (late + latest 1) m w.group h more q (Does ListTree) (w.armed q)
    (is_up w.group server r) tt tt
within_step m w n late h k (step.Boot server) r e f =
    let q = place_of server in
    let more = within_more n (n + 1) late (late + latest 1) (omega arith) (omega arith) w.group k in
    within_moves (Booting w.group.delta ∷ []) (n + 1) (late + latest 1) w.group q
    (w.group.server q) (boot_goes w.group h q) (tt, tt) more
within_step m w n late h k (step.Power server) r e f =
    let q = place_of server in
    let more = within_more n (n + 1) late (late + latest 1) (omega arith) (omega arith) w.group k in
    turn_within (n + 1) (late + latest 1) m w.group h more q (Does Power) None
    (is_up w.group server r) tt tt
within_step m w n late h k (step.PowerCut server calls pick) r e f =
    let q = place_of server in
    let more = within_more n (n + 1) late (late + latest 1) (omega arith) (omega arith) w.group k in
    turn_within (n + 1) (late + latest 1) m w.group h more q (Does Power) (Some calls)
    (is_up w.group server r) tt tt
within_step m w n late h k (step.Crash server pick) r e f =
    let q = place_of server in
    let more = within_more n (n + 1) late (late + latest 1) (omega arith) (omega arith) w.group k in
    turn_within (n + 1) (late + latest 1) m w.group h more q (Does Crash) None
    (is_up w.group server r) tt tt
within_step m w n late h k (step.Stop server calls pick) r e f =
    within_more n (n + 1) late (late + latest 1) (omega arith) (omega arith) w.group k
within_step m w n late h k (step.Noise server bytes) r e f =
    within_more n (n + 1) late (late + latest 1) (omega arith) (omega arith) w.group k
within_step m w n late h k (step.Clock server reading) r e f =
    let q = place_of server in
    let low = clock_late late w.group q reading k.clock r in
    let more = within_more n (n + 1) late late (omega arith) (omega arith) w.group k in
    with_clock (n + 1) late (late + latest 1) w.group (at w.group.clock q reading) more
    (omega arith)
    (each_at (λ (x : Place) (t : ℕ). t ≤ late + latest 1) w.group.clock q reading
    (λ x. let c = k.clock x in omega (arith, c)) (omega (arith, low)))
within_step m w n late h k (step.Advance millis) r e f =
    let more = within_more n (n + 1) late late (omega arith) (omega arith) w.group k in
    with_clock (n + 1) late (late + latest 1) w.group (λ q. w.group.clock q + millis) more
    (omega arith) (λ x. let c = k.clock x in omega (arith, c, f))
within_step m w n late h k (step.Delta millis) r e f =
    let more = within_more n (n + 1) late (late + latest 1) (omega arith) (omega arith) w.group k in
    by_if (λ (g : Group Entry). IsWithin (n + 1) (late + latest 1) g)
    (all_of (delta_tests millis)) (record w.group { delta = millis }) w.group
    (λ _. record {
      server = more.server;
      page = more.page;
      join = more.join;
      packet = more.packet;
      book = more.book;
      clock = more.clock;
    })
    (λ _. more)
