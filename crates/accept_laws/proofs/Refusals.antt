-- Only an ask is refused, and by one line.
use Rattle.std.proofs.Common.{ℕ, ◌+◌, ◌≤◌, ◌==◌, ◌/◌, ◌||◌, Bool, List, [], ◌∷◌, ◌++◌, length, Option, Some, None, nat_le, nat_lt, ap, arith, if◌then◌else◌}
use Rattle.std.specs.Prelude.{⊤}
use Rattle.std.specs.List.{AllByRecursion}
use Rattle.std.proofs.lemmas.List.{length-append}
use Rattle.std.proofs.lemmas.List.Concat.{flat_map-append}
use Rattle.harp_types.specs.Limits.{last_client}
use Rattle.harp_types.specs.Update.{is_update}
use Rattle.harp_types.specs.declared.call.Call.{Call}
use Rattle.harp_types.specs.declared.cred.Cred.{Cred}
use Rattle.file_tree.specs.Book.{Entry, last_of}
use Rattle.group_rules.specs.Ask.{append, new_entry, on_ask, update_moves}
use Rattle.group_rules.specs.Choose.{choose}
use Rattle.group_rules.specs.Disk.{demote_tests, flush_tests, settled_tests}
use Rattle.group_rules.specs.Effects.{taken}
use Rattle.group_rules.specs.Form.{accept_moves, fits, form_moves, on_give, pull_tests, wanted}
use Rattle.group_rules.specs.Joining.{chosen_moves, joined_tests, on_join, to_each}
use Rattle.group_rules.specs.Limits.{is_active, is_joins, is_open, limit, room}
use Rattle.group_rules.specs.Misfits.{misfits}
use Rattle.group_rules.specs.Moves.{Basing, Move, Opening, Saying, Sending, acts}
use Rattle.group_rules.specs.Open.{formed_tests, rebase, try_open}
use Rattle.group_rules.specs.Places.{Place, Trio, all_of, leader, other_storers, others, partner, same, with_at}
use Rattle.group_rules.specs.Replicate.{ack_tests, answers, is_in_view, on_event}
use Rattle.group_rules.specs.Said.{Refusal, refusals_said, refused_by}
use Rattle.group_rules.specs.Serving.{gives, held_tests, serving_accepted, serving_joined}
use Rattle.group_rules.specs.State.{Ack, Beat, Chose, Collects, Demote, Duty, Event, Fetch, Form, Formed, Give, Group, Invite, Join, Message, NoDuty, Plan, Refuses, Report, Server, top}
use Rattle.group_rules.specs.Step.{Apply, Ask, Comes, Crash, Does, Flush, Input, ListTree, Power, Suspect, Tick, on_message, list_of, rule}
use Rattle.group_rules.proofs.Tests.{by_if}
use Rattle.accept_laws.proofs.Counts.{asks}
use Rattle.trace_laws.proofs.MoveKinds.{AreEnd, AreTail, IsTail, each-append, ends_tail}
use Rattle.trace_laws.proofs.StepKinds.{end_open, tail_base, tick_end}
use Rattle.trace_laws.proofs.Turns.{Made, boot, fell, whole}

-- a move that refuses nothing
abbrev RefusesNone : Move Entry → Type 0
RefusesNone (Saying (Refuses client number cause)) = ⊥
RefusesNone m = ⊤

abbrev RefuseNone : List (Move Entry) → Type 0
RefuseNone ms = AllByRecursion RefusesNone ms

both : (a b : List (Move Entry)) → RefuseNone a → RefuseNone b → RefuseNone (a ++ b)
both a b = each-append RefusesNone a b

either : (b : Bool) (x y : List (Move Entry)) → RefuseNone x → RefuseNone y
    → RefuseNone (if b then x else y)
either b x y h k = by_if RefuseNone b x y (λ _. h) (λ _. k)

tails : (ms : List (Move Entry)) → AreTail ms → RefuseNone ms
tails [] h = tt
tails (m ∷ ms) h = (one m h.0, tails ms h.1)
  where
    one : (m : Move Entry) → IsTail m → RefusesNone m
    one (Sending to x) h = tt
    one (Basing n) h = tt
    one (Opening lb) h = tt
    one m h = absurd h

ends : (ms : List (Move Entry)) → AreEnd ms → RefuseNone ms
ends ms h = tails ms (ends_tail ms h)

to_all : (m : Message Entry) (ps : List Place) → RefuseNone (to_each m ps)
to_all m [] = tt
to_all m (p ∷ ps) = (tt, to_all m ps)

answered : (n : ℕ) (es : List Entry) → RefuseNone (answers n es)
answered n [] = tt
answered n (e ∷ es) = (tt, answered (n + 1) es)

-- ---- messages

accepts : (q : Place) (s : Server Entry) (plan : Plan) (staged : List Entry)
    → RefuseNone (accept_moves q s plan staged)
accepts q s plan staged = (tt, either (same q (partner plan.storers)) _ [] (tt, tt) tt)

forms : (q : Place) (s : Server Entry) (plan : Plan) → RefuseNone (form_moves q s plan)
forms q s plan =
    either (all_of (is_joins s.mode ∷ fits q s plan ∷ [])) _ []
    (either (same q plan.source || (wanted q s plan == plan.start)) _ _ (accepts q s plan [])
    (tt, (tt, tt))) tt

chooses : (q : Place) (s : Server Entry) (reports : Trio (Option Report)) (o : Option Plan)
    → RefuseNone (chosen_moves q s reports o)
chooses q s reports None = (tt, tt)
chooses q s reports (Some plan) = (
  tt,
  (
    tt,
    both (to_each (Form s.promised plan) (other_storers q plan.storers)) _ (to_all _ _)
        (forms q (record s { duty = Chose s.promised plan }) plan),
  ),
)

joins : (q : Place) (s : Server Entry) (from : Place) (v : ℕ) (t : Report) (d : Duty)
    → RefuseNone (on_join q s from v t d)
joins q s from v t NoDuty = tt
joins q s from v t (Chose w plan) = tt
joins q s from v t (Collects reports) =
    let all : Trio (Option Report) = with_at reports from (Some t) in
    either (v == s.promised) (chosen_moves q s all (choose all)) []
    (chooses q s all (choose all)) tt

pulls : (q : Place) (s : Server Entry) (v index : ℕ) (items : List Entry)
    → RefuseNone (on_give q s v index items)
pulls q s v index items =
    either (all_of (pull_tests s v index items)) _ []
    (either (s.wanted_from + length (s.staged ++ items) == s.plan.start) _ _
    (accepts q s s.plan (s.staged ++ items)) (tt, (tt, tt))) tt

given : (size : List Entry → Entry → ℕ) (list : List Entry) (s : Server Entry) (to : Place)
    (v index last : ℕ) → RefuseNone (gives size list s to v index last)
given size list s to v index last =
    either (all_of (held_tests s index last)) _ [] (tt, tt) tt

heeds : (q : Place) (clock : ℕ) (s : Server Entry) (from : Place) (v cp base : ℕ)
    (items : List Entry) → RefuseNone (on_event q clock s from v cp base items)
heeds q clock s from v cp base items =
    either (all_of (is_in_view s v ∷ same q (partner s.plan.storers) ∷ [])) _ [] (tt, (tt, tt)) tt

messages : (size : List Entry → Entry → ℕ) (q : Place) (clock : ℕ) (list : List Entry)
    (s : Server Entry) (from : Place) (m : Message Entry)
    → RefuseNone (on_message size q clock list s from m)
messages size q clock list s from (Invite v) =
    either (nat_lt s.promised v) _ _ (tt, (tt, tt))
    (either (all_of (joined_tests s v)) _ [] (tt, tt) tt)
messages size q clock list s from (Join v t) = joins q s from v t s.duty
messages size q clock list s from (Form v plan) =
    either (v == s.promised) _ [] (forms q s plan) tt
messages size q clock list s from (Fetch v index) =
    either (all_of (serving_joined s v)) _ _ (given size list s from v index (top s))
    (either (all_of (serving_accepted s v)) _ [] (given size list s from v index s.served) tt)
messages size q clock list s from (Give v index items) = pulls q s v index items
messages size q clock list s from (Formed v lb) =
    either (all_of (formed_tests s v)) _ [] (tt, tt) tt
messages size q clock list s from (Event v index cp base e) =
    heeds q clock s from v cp base (taken s index e)
messages size q clock list s from (Beat v cp base) = heeds q clock s from v cp base s.items
messages size q clock list s from (Ack v t lb until) =
    either (all_of (ack_tests s v)) _ []
    (tt, either (nat_lt s.cp t) _ [] (tt, answered s.cp _) tt) tt
messages size q clock list s from (Demote v) =
    either (all_of (demote_tests q s v)) _ [] (tt, tt) tt

comes : (size : List Entry → Entry → ℕ) (q : Place) (clock : ℕ) (list : List Entry)
    (s : Server Entry) (from : Place) (m : Message Entry)
    → RefuseNone (rule size q clock list s (Comes from m))
comes size q clock list s from m =
    let ms = on_message size q clock list s from m in
    either (misfits q s from m) [] _ tt
    (both ms (try_open q clock (acts q clock s ms)) (messages size q clock list s from m)
    (ends _ (end_open q clock (acts q clock s ms))))

-- ---- how many are refused

refusals : List (Move Entry) → ℕ
refusals ms = length (refusals_said ms)

none : (ms : List (Move Entry)) → RefuseNone ms → refusals ms ≤ 0
unfolding refusals
none [] h = omega arith
none (Saying (Refuses client number cause) ∷ ms) h = absurd h.0
none (m ∷ ms) h = none ms h.1

based : (ms : List (Move Entry)) (s : Server Entry) → refusals (ms ++ rebase s) ≤ refusals ms
unfolding refusals
based ms s =
    let all = ap (λ (rs : List Refusal). length rs) (flat_map-append refused_by ms (rebase s)) in
    let parts = length-append (refusals_said ms) (refusals_said (rebase s)) in
    let last = none (rebase s) (tails _ (tail_base s)) in
    omega (arith, all, parts, last)

-- ---- asks

few_if : (b : Bool) (x y : List (Move Entry)) → refusals x ≤ 1 → refusals y ≤ 1
    → refusals (if b then x else y) ≤ 1
few_if b x y h k = by_if (λ (ms : List (Move Entry)). refusals ms ≤ 1) b x y (λ _. h) (λ _. k)

appends : (s : Server Entry) (e : Entry) → refusals (append s e) ≤ 1
unfolding refusals
appends s e =
    few_if (nat_le room (length s.items) || nat_le limit (top s)) _ _ (omega arith) (omega arith)

updates : (s : Server Entry) (e : Entry) (last : Option Entry)
    → refusals (update_moves s e last) ≤ 1
unfolding refusals
updates s e None = appends s e
updates s e (Some last) =
    few_if (e.number == last.number) _ _
    (few_if (nat_le last.index s.cp) _ [] (omega arith) (omega arith))
    (few_if (nat_lt e.number last.number) _ _ (omega arith) (appends s e))

asked_once : (q : Place) (clock : ℕ) (list : List Entry) (s : Server Entry) (client number : ℕ)
    (cred : Cred) (c : Call) → refusals (on_ask q clock list s client number cred c) ≤ 1
unfolding refusals
asked_once q clock list s client number cred c =
    few_if (nat_lt last_client client) _ _ (omega arith)
    (few_if (all_of (is_active s.mode ∷ same q (leader s.plan.storers) ∷ [])) _ _
    (few_if (is_open s.mode) _ _
    (few_if (is_update c) _ _
    (updates s (new_entry clock list client number cred c) (last_of client list))
    (few_if (nat_le s.grant clock) _ _ (omega arith) (omega arith)))
    (omega arith)) (omega arith))

ruled : (size : List Entry → Entry → ℕ) (q : Place) (clock : ℕ) (list : List Entry)
    (s : Server Entry) (i : Input) → refusals (rule size q clock list s i) ≤ asks i
ruled size q clock list s (Does Tick) = none _ (ends _ (tick_end q clock s))
ruled size q clock list s (Does Suspect) =
    none _ (either (nat_lt (s.promised / 3) limit) _ [] (tt, to_all _ (others q)) tt)
ruled size q clock list s (Does (Ask client number cred c)) =
    asked_once q clock list s client number cred c
ruled size q clock list s (Does (Apply n)) =
    none _ (either (all_of (settled_tests q s)) _ [] (tt, tt) tt)
ruled size q clock list s (Does Flush) =
    none _ (either (all_of (flush_tests q s)) _ [] (tt, tt) tt)
ruled size q clock list s (Does ListTree) =
    none _ (either (all_of (settled_tests q s)) _ [] (tt, tt) tt)
ruled size q clock list s (Does Power) = none _ (tt, tt)
ruled size q clock list s (Does Crash) = none _ (tt, tt)
ruled size q clock list s (Comes from m) = none _ (comes size q clock list s from m)

-- a step refuses at most what it is asked
pub made_refuses : (g : Group Entry) (q : Place) (i : Input) (ms : List (Move Entry))
    → Made g q i ms → length (refusals_said ms) ≤ asks i
unfolding refusals
made_refuses g q i _ (whole size up) =
    let s = g.server q in
    let ms = rule size q (g.clock q) (list_of g q) s i in
    let more = based ms (acts q (g.clock q) s ms) in
    let few = ruled size q (g.clock q) (list_of g q) s i in
    omega (arith, more, few)
made_refuses g q i _ (fell up) = omega arith
made_refuses g q i _ (boot down) = omega arith
