-- The moves of each rule.
use Rattle.std.proofs.Common.{◌≡◌, ℕ, ◌+◌, ◌-◌, ◌/◌, ◌<◌, ◌≤◌, ◌||◌, ◌==◌, Bool, true, false, List, [], ◌∷◌, ◌++◌, length, take, drop, Option, Some, None, refl, subst, arith, nat_le, nat_lt, if◌then◌else◌, le_refl}
use Rattle.std.proofs.lemmas.List.{length-drop, length-take}
use Rattle.harp_types.specs.declared.call.Call.{Call}
use Rattle.harp_types.specs.declared.cred.Cred.{Cred}
use Rattle.harp_types.specs.Update.{is_update}
use Rattle.file_tree.specs.Book.{Entry, last_of}
use Rattle.group_rules.specs.Ask.{append, new_entry, on_ask, update_moves}
use Rattle.group_rules.specs.Choose.{choice_of, choose, greatest, horizon_of, pair_of, plan_of, source_of}
use Rattle.group_rules.specs.Disk.{demote_tests, flush_tests, settled_tests}
use Rattle.group_rules.specs.Effects.{accepting, taken}
use Rattle.group_rules.specs.Form.{accept_moves, adopted, fits, form_moves, on_give, pull_tests, role_of, wanted}
use Rattle.group_rules.specs.Joining.{chosen_moves, joined_tests, on_invite, on_join, suspect}
use Rattle.group_rules.specs.Limits.{is_active, is_joins, is_log, is_open, is_pulls, limit, room}
use Rattle.group_rules.specs.Misfits.{misfits}
use Rattle.group_rules.specs.Moves.{Move, Opening, Sending, act, acts}
use Rattle.group_rules.specs.Open.{base_tests, formed_tests, open_heard, open_moves, open_tests, rebase, try_open}
use Rattle.group_rules.specs.Places.{Zero, One, Two, Pair, Place, Trio, all_of, get, is_s01, leader, next_view, other_storers, others, partner, same, with_at}
use Rattle.group_rules.specs.Replicate.{ack_tests, answers, is_in_view, on_ack, on_event}
use Rattle.group_rules.specs.Serving.{asked_for, front, gives, held_tests, on_fetch, one_or_more, serving_accepted, serving_joined}
use Rattle.group_rules.specs.State.{Ack, Beat, Chose, Collects, Demote, Duty, Empty, Event, Fetch, Form, Formed, Give, Held, Invite, Join, Joins, Live, Log, Lost, Message, Mode, NoDuty, Open, Plan, Pulls, Report, Rests, Server, Waits, top}
use Rattle.group_rules.specs.Step.{Apply, Ask, Comes, Crash, Deed, Does, Flush, Input, ListTree, Power, Suspect, Tick, does, on_message, rule}
use Rattle.group_rules.specs.Tick.{again, again_tests, beats, duties, duty_tests, events, invite_again, tick}
use Rattle.group_rules.proofs.Tests.{by_if, each_of, is_le, is_lt}
use Rattle.accept_laws.specs.Walks.{AskFits, EntryWithin, InputFits, MoveFits, ServerKnown, StepsWalk, Walks}
use Rattle.accept_laws.proofs.Walking.{walks_all, walks_each, walks_if, walks_then, walks_where}

-- ---- tests of modes

pulls_is : (m : Mode) → is_pulls m ≡ true → m ≡ Pulls
pulls_is Rests e = absurd cc
pulls_is Joins e = absurd cc
pulls_is Pulls e = refl
pulls_is Waits e = absurd cc
pulls_is Open e = absurd cc
pulls_is Live e = absurd cc

log_is : (h : Held) → is_log h ≡ true → h ≡ Log
log_is Log e = refl
log_is Lost e = absurd cc
log_is Empty e = absurd cc

-- ---- the horizon of a choice

told_at : (h : ℕ) (o : Option Report) → ((t : Report) → o ≡ Some t → t.horizon ≤ h)
    → horizon_of o ≤ h
told_at h None k = omega arith
told_at h (Some t) k = k t refl

chosen_horizon : (h : ℕ) (reports : Trio (Option Report)) (pair : Option Pair)
    (best : Option (Place × Report)) (plan : Plan)
    → ((x : Place) (t : Report) → get reports x ≡ Some t → t.horizon ≤ h)
    → choice_of reports pair best ≡ Some plan → plan.horizon ≤ h
chosen_horizon h reports None best plan k e = absurd cc
chosen_horizon h reports (Some pair) None plan k e = absurd cc
chosen_horizon h reports (Some pair) (Some best) plan k e =
    let is : plan_of reports pair best ≡ plan = cc in
    let a = told_at h (get reports Zero) (k Zero) in
    let b = told_at h (get reports One) (k One) in
    let c = told_at h (get reports Two) (k Two) in
    subst (λ (p : Plan). p.horizon ≤ h) is (omega (arith, a, b, c))

told_more : (h : ℕ) (reports : Trio (Option Report)) (from : Place) (t : Report)
    → ((x : Place) (u : Report) → get reports x ≡ Some u → u.horizon ≤ h) → t.horizon ≤ h
    → (x : Place) (u : Report) → get (with_at reports from (Some t)) x ≡ Some u → u.horizon ≤ h
told_more h reports Zero t k l Zero u e = let is : t ≡ u = cc in
    subst (λ (r : Report). r.horizon ≤ h) is l
told_more h reports Zero t k l One u e = k One u e
told_more h reports Zero t k l Two u e = k Two u e
told_more h reports One t k l Zero u e = k Zero u e
told_more h reports One t k l One u e = let is : t ≡ u = cc in
    subst (λ (r : Report). r.horizon ≤ h) is l
told_more h reports One t k l Two u e = k Two u e
told_more h reports Two t k l Zero u e = k Zero u e
told_more h reports Two t k l One u e = k One u e
told_more h reports Two t k l Two u e = let is : t ≡ u = cc in
    subst (λ (r : Report). r.horizon ≤ h) is l

-- ---- records that are given

front_few : (size : List Entry → Entry → ℕ) (before : List Entry) (used : ℕ) (es : List Entry)
    → length (front size before used es) ≤ length es
front_few size before used [] = omega arith
front_few size before used (e ∷ es) =
    by_if (λ (xs : List Entry). length xs ≤ length (e ∷ es)) (nat_le (used + size before e) _) _ []
    (λ t. let rest = front_few size (before ++ e ∷ []) (used + size before e) es in
    omega (arith, rest))
    (λ t. omega arith)

some_given : (size : List Entry → Entry → ℕ) (before es : List Entry) → 1 ≤ length es
    → (1 ≤ length (one_or_more size before es)) × (length (one_or_more size before es) ≤ length es)
some_given size before [] h = absurd (omega (arith, h))
some_given size before (e ∷ es) h =
    let rest = front_few size (before ++ e ∷ []) (size before e) es in
    (omega arith, omega (arith, rest))

some_asked : (s : Server Entry) (index last : ℕ) → s.base < index → index ≤ last → last ≤ top s
    → (1 ≤ length (asked_for s index last)) × (length (asked_for s index last) ≤ length s.items)
some_asked s index last a b c =
    let cut = length-drop (index - 1 - s.base) s.items in
    let few = length-take (last - (index - 1)) (drop (index - 1 - s.base) s.items) in
    (omega (arith, cut, few, a, b, c), omega (arith, cut, few))

next_count : (q : Place) (p n : ℕ) → p / 3 < n → next_view p q / 3 ≤ n
next_count Zero p n l = omega (arith, l)
next_count One p n l = omega (arith, l)
next_count Two p n l = omega (arith, l)

-- ---- each rule, at a place and a clock

module _ (n late : ℕ) (q : Place) (clock : ℕ) where
  accepts : (s : Server Entry) (plan : Plan) (staged : List Entry)
      → Walks (MoveFits n late) q clock s (accept_moves q s plan staged)
  accepts s plan staged = (
    tt,
    walks_where (MoveFits n late) q clock
        (accepting s plan (role_of plan.storers q) (adopted q s plan staged))
        (same q (partner plan.storers)) _ (λ _. (refl, tt)),
  )

  forms : (s : Server Entry) (plan : Plan)
      → Walks (MoveFits n late) q clock s (form_moves q s plan)
  forms s plan =
      walks_where (MoveFits n late) q clock s (all_of (is_joins s.mode ∷ fits q s plan ∷ [])) _
      (λ _. walks_if (MoveFits n late) q clock s
      (same q plan.source || (wanted q s plan == plan.start)) _ _
      (λ _. accepts s plan [])
      (λ _. (tt, ((refl, omega arith), tt))))

  suspects : (s : Server Entry) → s.promised / 3 < n
      → Walks (MoveFits n late) q clock s (suspect q s)
  suspects s l =
      walks_where (MoveFits n late) q clock s (nat_lt (s.promised / 3) limit) _ (λ _. (
        next_count q s.promised n l,
        walks_all (MoveFits n late) q clock _ (Invite (next_view s.promised q)) (others q)
            (λ to. le_refl _),
      ))

  invites : (s : Server Entry) (from : Place) (v : ℕ) → v / 3 ≤ n
      → Walks (MoveFits n late) q clock s (on_invite s from v)
  invites s from v l =
      walks_if (MoveFits n late) q clock s (nat_lt s.promised v) _ _ (λ _. (l, (tt, tt)))
      (λ _. walks_where (MoveFits n late) q clock s (all_of (joined_tests s v)) _ (λ _. (tt, tt)))

  chooses : (s : Server Entry) (reports : Trio (Option Report)) (o : Option Plan)
      → ((x : Place) (t : Report) → get reports x ≡ Some t → t.horizon ≤ late + 100000) → choose reports ≡ o
      → Walks (MoveFits n late) q clock s (chosen_moves q s reports o)
  chooses s reports None k e = (tt, tt)
  chooses s reports (Some plan) k e = (
    tt,
    (
      chosen_horizon (late + 100000) reports
          (pair_of (get reports Zero) (get reports One) (get reports Two))
          (source_of reports (greatest reports)) plan k e,
      walks_each (MoveFits n late) q clock (record s { duty = Chose s.promised plan })
          (Form s.promised plan) (other_storers q plan.storers)
          (form_moves q (record s { duty = Chose s.promised plan }) plan) (λ to. tt)
          (forms (record s { duty = Chose s.promised plan }) plan),
    ),
  )

  joins : (s : Server Entry) (from : Place) (v : ℕ) (t : Report) (d : Duty) → t.horizon ≤ late + 100000
      → ((reports : Trio (Option Report)) → d ≡ Collects reports → (x : Place) (u : Report)
      → get reports x ≡ Some u → u.horizon ≤ late + 100000)
      → Walks (MoveFits n late) q clock s (on_join q s from v t d)
  joins s from v t NoDuty l k = tt
  joins s from v t (Chose w plan) l k = tt
  joins s from v t (Collects reports) l k =
      walks_where (MoveFits n late) q clock s (v == s.promised) _
      (λ _. chooses s (with_at reports from (Some t)) (choose (with_at reports from (Some t)))
      (told_more (late + 100000) reports from t (k reports refl) l) refl)

  pulls : (s : Server Entry) (v index : ℕ) (items : List Entry)
      → Walks (MoveFits n late) q clock s (on_give q s v index items)
  pulls s v index items =
      walks_where (MoveFits n late) q clock s (all_of (pull_tests s v index items)) _
      (λ t. walks_if (MoveFits n late) q clock s
      (s.wanted_from + length (s.staged ++ items) == s.plan.start) _ _
      (λ _. accepts s s.plan (s.staged ++ items))
      (λ _. (tt, ((pulls_is s.mode (each_of (pull_tests s v index items) t).0, refl), tt))))

  one_given : (size : List Entry → Entry → ℕ) (list : List Entry) (s : Server Entry) (to : Place)
      (v index last : ℕ) → last ≤ top s
      → Walks (MoveFits n late) q clock s (gives size list s to v index last)
  one_given size list s to v index last l =
      walks_where (MoveFits n late) q clock s (all_of (held_tests s index last)) _ (λ t.
      let tests = each_of (held_tests s index last) t in
      let asked = some_asked s index last (is_lt s.base index tests.0) (is_le index last tests.1.0)
      l in
      let few = some_given size (take (index - 1) list) (asked_for s index last) asked.0 in
      let most = asked.1 in
      let more = few.1 in
      ((few.0, omega (arith, most, more)), tt))

  serves : (size : List Entry → Entry → ℕ) (list : List Entry) (s : Server Entry) (from : Place)
      (v index : ℕ) → (s.held ≡ Log → s.served ≤ top s)
      → Walks (MoveFits n late) q clock s (on_fetch size list s from v index)
  serves size list s from v index l =
      walks_if (MoveFits n late) q clock s (all_of (serving_joined s v)) _ _
      (λ _. one_given size list s from v index (top s) (le_refl _))
      (λ _. walks_where (MoveFits n late) q clock s (all_of (serving_accepted s v)) _ (λ t.
      one_given size list s from v index s.served
      (l (log_is s.held (each_of (serving_accepted s v) t).1.0))))

  opens : (s : Server Entry) (lb : ℕ) → Walks (MoveFits n late) q clock s (open_moves s lb)
  opens s lb = (tt, sends (is_s01 s.plan.storers))
    where
      sends : (b : Bool) → Walks (MoveFits n late) q clock (act q clock s (Opening lb))
          ((if b then Sending Two (Demote s.accepted) ∷ [] else [])
          ++ Sending (partner s.plan.storers) (Beat s.accepted (top s) s.base) ∷ [])
      sends true = (tt, (tt, tt))
      sends false = (tt, tt)

  opens_heard : (s : Server Entry) (o : Option ℕ)
      → Walks (MoveFits n late) q clock s (open_heard clock s o)
  opens_heard s None = tt
  opens_heard s (Some lb) =
      walks_where (MoveFits n late) q clock s (nat_le (s.plan.horizon + 50) clock) _
      (λ _. opens s lb)

  tries : (s : Server Entry) → Walks (MoveFits n late) q clock s (try_open q clock s)
  tries s = walks_where (MoveFits n late) q clock s (all_of (open_tests q s)) _
      (λ _. opens_heard s (get s.heard (partner s.plan.storers)))

  bases : (s : Server Entry) → Walks (MoveFits n late) q clock s (rebase s)
  bases s = walks_where (MoveFits n late) q clock s (all_of (base_tests s)) _ (λ _. (tt, tt))

  answered : (s : Server Entry) (i : ℕ) (es : List Entry)
      → Walks (MoveFits n late) q clock s (answers i es)
  answered s i [] = tt
  answered s i (e ∷ es) = (tt, answered s (i + 1) es)

  acked : (s : Server Entry) (v t lb until : ℕ)
      → Walks (MoveFits n late) q clock s (on_ack s v t lb until)
  acked s v t lb until =
      walks_where (MoveFits n late) q clock s (all_of (ack_tests s v)) _ (λ _. (
        tt,
        walks_where (MoveFits n late) q clock _ (nat_lt s.cp t) _ (λ _. (tt, answered _ s.cp _)),
      ))

  heeds : (s : Server Entry) (from : Place) (v cp base : ℕ) (items : List Entry)
      → Walks (MoveFits n late) q clock s (on_event q clock s from v cp base items)
  heeds s from v cp base items =
      walks_where (MoveFits n late) q clock s
      (all_of (is_in_view s v ∷ same q (partner s.plan.storers) ∷ [])) _ (λ _. (tt, (tt, tt)))

  -- ---- ticks

  sends_events : (s : Server Entry) (to : Place) (v cp base i : ℕ) (es : List Entry)
      → Walks (MoveFits n late) q clock s (events to v cp base i es)
  sends_events s to v cp base i [] = tt
  sends_events s to v cp base i (e ∷ es) = (tt, sends_events s to v cp base (i + 1) es)

  beating : (s : Server Entry) → Walks (MoveFits n late) q clock s (beats s)
  beating s = (tt, sends_events s _ _ _ _ _ _)

  has_duties : (s : Server Entry) (d : Duty) (rest : List (Move Entry))
      → Walks (MoveFits n late) q clock s rest
      → Walks (MoveFits n late) q clock s (duties q s d ++ rest)
  has_duties s NoDuty rest k = k
  has_duties s (Collects reports) rest k =
      asks (get reports Zero) (get reports One) (get reports Two)
    where
      asks : (a b c : Option Report) → Walks (MoveFits n late) q clock s
          ((invite_again s.promised Zero a
          ++ (invite_again s.promised One b ++ invite_again s.promised Two c)) ++ rest)
      asks None None None = (le_refl _, (le_refl _, (le_refl _, k)))
      asks None None (Some c) = (le_refl _, (le_refl _, k))
      asks None (Some b) None = (le_refl _, (le_refl _, k))
      asks None (Some b) (Some c) = (le_refl _, k)
      asks (Some a) None None = (le_refl _, (le_refl _, k))
      asks (Some a) None (Some c) = (le_refl _, k)
      asks (Some a) (Some b) None = (le_refl _, k)
      asks (Some a) (Some b) (Some c) = k
  has_duties s (Chose v plan) rest k =
      by_if (λ (ms : List (Move Entry)). Walks (MoveFits n late) q clock s (ms ++ rest))
      (all_of (duty_tests q s v plan)) _ []
      (λ _. walks_each (MoveFits n late) q clock s (Form v plan) (other_storers q plan.storers) rest
      (λ to. tt) k)
      (λ _. k)

  sends_again : (s : Server Entry) → Walks (MoveFits n late) q clock s (again q s)
  sends_again s =
      by_if (λ (ms : List (Move Entry)). Walks (MoveFits n late) q clock s (ms ++ second))
      (is_pulls s.mode) _ [] (λ t. ((pulls_is s.mode t, refl), last)) (λ _. last)
    where
      second : List (Move Entry)
      second = if all_of (again_tests q s)
          then Sending (leader s.plan.storers) (Formed s.accepted s.lb) ∷ [] else []

      last : Walks (MoveFits n late) q clock s second
      last = walks_where (MoveFits n late) q clock s (all_of (again_tests q s)) _ (λ _. (refl, tt))

  ticks : (s : Server Entry) → Walks (MoveFits n late) q clock s (tick q clock s)
  ticks s =
      let first = if is_open s.mode then beats s else try_open q clock s in
      let s' = acts q clock s first in
      walks_then (MoveFits n late) q clock first (duties q s' s'.duty ++ again q s') s
      (walks_if (MoveFits n late) q clock s (is_open s.mode) (beats s) (try_open q clock s)
      (λ _. beating s) (λ _. tries s))
      (has_duties s' s'.duty (again q s') (sends_again s'))

  -- ---- asks

  appends : (s : Server Entry) (e : Entry) → EntryWithin n late e
      → Walks (MoveFits n late) q clock s (append s e)
  appends s e p =
      walks_if (MoveFits n late) q clock s (nat_le room (length s.items) || nat_le limit (top s)) _ _
      (λ _. (p.asker, tt)) (λ _. (p, (tt, tt)))

  updates : (s : Server Entry) (e : Entry) (o : Option Entry) → EntryWithin n late e
      → Walks (MoveFits n late) q clock s (update_moves s e o)
  updates s e None p = appends s e p
  updates s e (Some last) p =
      walks_if (MoveFits n late) q clock s (e.number == last.number) _ _
      (λ _. walks_where (MoveFits n late) q clock s (nat_le last.index s.cp) _ (λ _. (tt, tt)))
      (λ _. walks_if (MoveFits n late) q clock s (nat_lt e.number last.number) _ _
      (λ _. (p.asker, tt)) (λ _. appends s e p))

  asks : (list : List Entry) (s : Server Entry) (client number' : ℕ) (cred : Cred) (asked : Call)
      → AskFits n late clock list client number' cred asked
      → Walks (MoveFits n late) q clock s (on_ask q clock list s client number' cred asked)
  asks list s client number' cred asked p =
      walks_if (MoveFits n late) q clock s (nat_lt 4095 client) _ _ (λ _. (p.asker, tt))
      (λ _. walks_if (MoveFits n late) q clock s
      (all_of (is_active s.mode ∷ same q (leader s.plan.storers) ∷ [])) _ _
      (λ _. walks_if (MoveFits n late) q clock s (is_open s.mode) _ _
      (λ _. walks_if (MoveFits n late) q clock s (is_update asked) _ _
      (λ _. updates s (new_entry clock list client number' cred asked) (last_of client list)
      (record {
        asker = p.asker;
        cred = p.cred_fits;
        call = p.call_fits;
        index = p.next;
        stamp = p.stamp;
      }))
      (λ _. walks_if (MoveFits n late) q clock s (nat_le s.grant clock) _ _ (λ _. (p.asker, tt))
      (λ _. (
        record {
          asker = p.asker;
          cred = p.cred_fits;
          call = p.call_fits;
          index = omega arith;
          stamp = omega arith;
        },
        tt,
      ))))
      (λ _. (p.asker, tt))) (λ _. (p.asker, tt)))

  -- ---- each step

  deeds : (list : List Entry) (s : Server Entry) (d : Deed) → InputFits n late clock list s (Does d)
      → Walks (MoveFits n late) q clock s (does q clock list s d)
  deeds list s Tick k = ticks s
  deeds list s Suspect k = suspects s k
  deeds list s (Ask client number' cred asked) k = asks list s client number' cred asked k
  deeds list s (Apply most) k =
      walks_where (MoveFits n late) q clock s (all_of (settled_tests q s)) _ (λ _. (tt, tt))
  deeds list s Flush k =
      walks_where (MoveFits n late) q clock s (all_of (flush_tests q s)) _ (λ _. (tt, tt))
  deeds list s ListTree k =
      walks_where (MoveFits n late) q clock s (all_of (settled_tests q s)) _ (λ _. (tt, tt))
  deeds list s Power k = (tt, tt)
  deeds list s Crash k = (tt, tt)

  messages : (size : List Entry → Entry → ℕ) (list : List Entry) (s : Server Entry) (from : Place)
      (m : Message Entry) → ServerKnown late s → InputFits n late clock list s (Comes from m)
      → Walks (MoveFits n late) q clock s (on_message size q clock list s from m)
  messages size list s from (Invite v) w k = invites s from v k
  messages size list s from (Join v t) w k = joins s from v t s.duty k w.told
  messages size list s from (Form v plan) w k =
      walks_where (MoveFits n late) q clock s (v == s.promised) _ (λ _. forms s plan)
  messages size list s from (Fetch v index) w k = serves size list s from v index w.served
  messages size list s from (Give v index items) w k = pulls s v index items
  messages size list s from (Formed v lb) w k =
      walks_where (MoveFits n late) q clock s (all_of (formed_tests s v)) _ (λ _. (tt, tt))
  messages size list s from (Event v index cp base e) w k =
      heeds s from v cp base (taken s index e)
  messages size list s from (Beat v cp base) w k = heeds s from v cp base s.items
  messages size list s from (Ack v t lb until) w k = acked s v t lb until
  messages size list s from (Demote v) w k =
      walks_where (MoveFits n late) q clock s (all_of (demote_tests q s v)) _ (λ _. (k, tt))

  rules : (size : List Entry → Entry → ℕ) (list : List Entry) (s : Server Entry) (i : Input)
      → ServerKnown late s → InputFits n late clock list s i
      → Walks (MoveFits n late) q clock s (rule size q clock list s i)
  rules size list s (Does d) w k = deeds list s d k
  rules size list s (Comes from m) w k =
      let ms = on_message size q clock list s from m in
      let s' = acts q clock s ms in
      walks_if (MoveFits n late) q clock s (misfits q s from m) [] _ (λ _. tt)
      (λ _. walks_then (MoveFits n late) q clock ms (try_open q clock s') s
      (messages size list s from m w k) (tries s'))

pub steps_walk : StepsWalk
steps_walk n late size q clock list s i w k =
    let ms = rule size q clock list s i in
    let s' = acts q clock s ms in
    walks_then (MoveFits n late) q clock ms (rebase s') s (rules n late q clock size list s i w k)
    (bases n late q clock s')
