-- Which steps answer no read: all but asks.
use Rattle.std.proofs.Common.{◌≡◌, ℕ, ◌+◌, ◌-◌, ◌/◌, ◌||◌, ◌==◌, Bool, List, [], ◌∷◌, ◌++◌, length, take, drop, Option, None, Some, refl, ap, ◌∙◌, nat_lt, nat_le, if◌then◌else◌}
use Rattle.std.specs.Prelude.{⊤}
use Rattle.std.proofs.lemmas.List.Concat.{flat_map-append}
use Rattle.harp_types.specs.Limits.{clock_skew}
use Rattle.file_tree.specs.Book.{Entry}
use Rattle.group_rules.proofs.Tests.{by_if}
use Rattle.group_rules.specs.Choose.{choose}
use Rattle.group_rules.specs.Disk.{demote_tests, flush_tests, settled_tests}
use Rattle.group_rules.specs.Effects.{report_of, taken}
use Rattle.group_rules.specs.Form.{accept_moves, fits, form_moves, on_give, pull_tests, wanted}
use Rattle.group_rules.specs.Joining.{chosen_moves, joined_tests, on_join, suspect, to_each}
use Rattle.group_rules.specs.Limits.{is_joins, is_open, is_pulls, limit}
use Rattle.group_rules.specs.Misfits.{misfits}
use Rattle.group_rules.specs.Moves.{Committing, Joining, Move, Sending, acts}
use Rattle.group_rules.specs.Open.{and_then, base_tests, formed_tests, open_heard, open_tests, rebase, try_open}
use Rattle.group_rules.specs.Places.{Zero, One, Two, Place, Trio, all_of, get, is_s01, next_view, other_storers, others, partner, same, with_at}
use Rattle.group_rules.specs.Replicate.{ack_tests, answers, is_in_view, on_ack, on_event}
use Rattle.group_rules.specs.Said.{read_by, reads_said}
use Rattle.group_rules.specs.Serving.{held_tests, serving_accepted, serving_joined}
use Rattle.group_rules.specs.State.{Ack, Beat, Chose, Collects, Demote, Duty, Event, Fetch, Form, Formed, Give, Invite, Join, Message, NoDuty, Plan, Report, Server, top}
use Rattle.group_rules.specs.Step.{Apply, Ask, Comes, Crash, Deed, Does, Flush, ListTree, Power, Suspect, Tick, does, on_message, step}
use Rattle.group_rules.specs.Tick.{again, again_tests, beats, duties, duty_tests, events, invite_again, tick, unacknowledged}

-- moves that answer no read
abbrev pub NoReads : List (Move Entry) → Type 0
NoReads ms = reads_said ms ≡ []

both : (a b : List (Move Entry)) → NoReads a → NoReads b → NoReads (a ++ b)
both a b p q = flat_map-append read_by a b ∙ ap (λ es. es ++ reads_said b) p ∙ q

either : (b : Bool) (x y : List (Move Entry)) → NoReads x → NoReads y
    → NoReads (if b then x else y)
either b x y p q = by_if NoReads b x y (λ _. p) (λ _. q)

to_each_none : (m : Message Entry) (ps : List Place) → NoReads (to_each m ps)
to_each_none m [] = refl
to_each_none m (p ∷ ps) = to_each_none m ps

-- ---- opening, the base, ticks and suspicions

open_none : (q : Place) (clock : ℕ) (s : Server Entry) → NoReads (try_open q clock s)
open_none q clock s =
    either (all_of (open_tests q s)) _ [] (heard (get s.heard (partner s.plan.storers))) refl
  where
    heard : (o : Option ℕ) → NoReads (open_heard clock s o)
    heard None = refl
    heard (Some lb) = either (nat_le (s.plan.horizon + clock_skew) clock) _ []
        (both (if is_s01 s.plan.storers then _ else []) _
        (either (is_s01 s.plan.storers) _ [] refl refl) refl) refl

base_none : (s : Server Entry) → NoReads (rebase s)
base_none s = either (all_of (base_tests s)) _ [] refl refl

events_none : (to : Place) (v cp base n : ℕ) (es : List Entry) → NoReads (events to v cp base n es)
events_none to v cp base n [] = refl
events_none to v cp base n (e ∷ es) = events_none to v cp base (n + 1) es

-- an open leader's Beat and Events
beats_none : (s : Server Entry) → NoReads (beats s)
beats_none s = events_none (partner s.plan.storers) s.accepted s.cp s.base (unacknowledged s)
    (take 64 (drop (unacknowledged s - s.base) s.items))

invite_none : (v : ℕ) (p : Place) (o : Option Report) → NoReads (invite_again {E = Entry} v p o)
invite_none v p None = refl
invite_none v p (Some t) = refl

duties_none : (q : Place) (s : Server Entry) (d : Duty) → NoReads (duties q s d)
duties_none q s NoDuty = refl
duties_none q s (Collects reports) =
    both (invite_again s.promised Zero (get reports Zero)) _
    (invite_none s.promised Zero (get reports Zero))
    (both (invite_again s.promised One (get reports One)) _
    (invite_none s.promised One (get reports One))
    (invite_none s.promised Two (get reports Two)))
duties_none q s (Chose v plan) = either (all_of (duty_tests q s v plan)) _ []
    (to_each_none (Form v plan) (other_storers q plan.storers)) refl

again_none : (q : Place) (s : Server Entry) → NoReads (again q s)
again_none q s = both (if is_pulls s.mode then _ else []) _
    (either (is_pulls s.mode) _ [] refl refl)
    (either (all_of (again_tests q s)) _ [] refl refl)

tick_none : (q : Place) (clock : ℕ) (s : Server Entry) → NoReads (tick q clock s)
tick_none q clock s =
    let first = if is_open s.mode then beats s else try_open q clock s in
    let s' = acts q clock s first in
    both first (duties q s' s'.duty ++ again q s')
    (either (is_open s.mode) (beats s) (try_open q clock s) (beats_none s) (open_none q clock s))
    (both (duties q s' s'.duty) (again q s') (duties_none q s' s'.duty) (again_none q s'))

suspect_none : (q : Place) (s : Server Entry) → NoReads (suspect q s)
suspect_none q s = either (nat_lt (s.promised / 3) limit) _ []
    (to_each_none (Invite (next_view s.promised q)) (others q)) refl

-- ---- the parts of a view

accept_none : (q : Place) (s : Server Entry) (plan : Plan) (staged : List Entry)
    → NoReads (accept_moves q s plan staged)
accept_none q s plan staged = either (same q (partner plan.storers)) _ [] refl refl

form_none : (q : Place) (s : Server Entry) (plan : Plan) → NoReads (form_moves q s plan)
form_none q s plan = either (all_of (is_joins s.mode ∷ fits q s plan ∷ [])) _ []
    (either (same q plan.source || (wanted q s plan == plan.start)) _ _
    (accept_none q s plan []) refl) refl

choice_none : (q : Place) (s : Server Entry) (reports : Trio (Option Report)) (o : Option Plan)
    → NoReads (chosen_moves q s reports o)
choice_none q s reports None = refl
choice_none q s reports (Some plan) =
    both (to_each (Form s.promised plan) (other_storers q plan.storers)) _
    (to_each_none (Form s.promised plan) (other_storers q plan.storers))
    (form_none q (record s { duty = Chose s.promised plan }) plan)

join_none : (q : Place) (s : Server Entry) (from : Place) (v : ℕ) (t : Report) (d : Duty)
    → NoReads (on_join q s from v t d)
join_none q s from v t NoDuty = refl
join_none q s from v t (Chose w plan) = refl
join_none q s from v t (Collects reports) = either (v == s.promised) _ []
    (choice_none q s (with_at reports from (Some t)) (choose (with_at reports from (Some t)))) refl

give_none : (q : Place) (s : Server Entry) (v index : ℕ) (items : List Entry)
    → NoReads (on_give q s v index items)
give_none q s v index items = either (all_of (pull_tests s v index items)) _ []
    (either (s.wanted_from + length (s.staged ++ items) == s.plan.start) _ _
    (accept_none q s s.plan (s.staged ++ items)) refl) refl

-- ---- replication

event_none : (q : Place) (clock : ℕ) (s : Server Entry) (from : Place) (v cp base : ℕ)
    (items : List Entry) → NoReads (on_event q clock s from v cp base items)
event_none q clock s from v cp base items =
    either (all_of (is_in_view s v ∷ same q (partner s.plan.storers) ∷ [])) _ [] refl refl

answers_none : (n : ℕ) (es : List Entry) → NoReads (answers n es)
answers_none n [] = refl
answers_none n (e ∷ es) = answers_none (n + 1) es

ack_none : (s : Server Entry) (v t lb until : ℕ) → NoReads (on_ack s v t lb until)
ack_none s v t lb until =
    let es = take (t - s.cp) (drop (s.cp - s.base) s.items) in
    either (all_of (ack_tests s v)) _ []
    (either (nat_lt s.cp t) (Committing t ∷ answers s.cp es) [] (answers_none s.cp es) refl) refl

-- ---- steps

message_none : (size : List Entry → Entry → ℕ) (q : Place) (clock : ℕ) (list : List Entry)
    (s : Server Entry) (from : Place) (m : Message Entry)
    → NoReads (on_message size q clock list s from m)
message_none size q clock list s from (Invite v) = either (nat_lt s.promised v) (Joining v NoDuty
    ∷ Sending from (Join v (report_of s)) ∷ []) _ refl
    (either (all_of (joined_tests s v)) _ [] refl refl)
message_none size q clock list s from (Join v t) = join_none q s from v t s.duty
message_none size q clock list s from (Form v plan) =
    either (v == s.promised) _ [] (form_none q s plan) refl
message_none size q clock list s from (Fetch v index) = either (all_of (serving_joined s v)) _ _
    (either (all_of (held_tests s index (top s))) _ [] refl refl)
    (either (all_of (serving_accepted s v)) _ []
    (either (all_of (held_tests s index s.served)) _ [] refl refl) refl)
message_none size q clock list s from (Give v index items) = give_none q s v index items
message_none size q clock list s from (Formed v lb) =
    either (all_of (formed_tests s v)) _ [] refl refl
message_none size q clock list s from (Event v index cp base e) =
    event_none q clock s from v cp base (taken s index e)
message_none size q clock list s from (Beat v cp base) = event_none q clock s from v cp base s.items
message_none size q clock list s from (Ack v t lb until) = ack_none s v t lb until
message_none size q clock list s from (Demote v) =
    either (all_of (demote_tests q s v)) _ [] refl refl

-- moves, and then the base
then_base : (q : Place) (clock : ℕ) (s : Server Entry) (ms : List (Move Entry)) → NoReads ms
    → NoReads (and_then q clock s ms rebase)
then_base q clock s ms h = both ms (rebase (acts q clock s ms)) h (base_none (acts q clock s ms))

pub comes_none : (size : List Entry → Entry → ℕ) (q : Place) (clock : ℕ) (list : List Entry)
    (s : Server Entry) (from : Place) (m : Message Entry)
    → NoReads (step size q clock list s (Comes from m))
comes_none size q clock list s from m =
    let ms = on_message size q clock list s from m in
    let rest = try_open q clock (acts q clock s ms) in
    then_base q clock s (if misfits q s from m then [] else ms ++ rest)
    (either (misfits q s from m) [] (ms ++ rest) refl
    (both ms rest (message_none size q clock list s from m)
    (open_none q clock (acts q clock s ms))))

-- deeds that aren't asks
abbrev pub IsNoAsk : Deed → Type 0
IsNoAsk (Ask client number cred c) = ⊥
IsNoAsk d = ⊤

deed_none : (q : Place) (clock : ℕ) (list : List Entry) (s : Server Entry) (d : Deed) → IsNoAsk d
    → NoReads (does q clock list s d)
deed_none q clock list s (Ask client number cred c) h = absurd h
deed_none q clock list s Tick h = tick_none q clock s
deed_none q clock list s Suspect h = suspect_none q s
deed_none q clock list s (Apply n) h = either (all_of (settled_tests q s)) _ [] refl refl
deed_none q clock list s Flush h = either (all_of (flush_tests q s)) _ [] refl refl
deed_none q clock list s ListTree h = either (all_of (settled_tests q s)) _ [] refl refl
deed_none q clock list s Power h = refl
deed_none q clock list s Crash h = refl

pub does_none : (size : List Entry → Entry → ℕ) (q : Place) (clock : ℕ) (list : List Entry)
    (s : Server Entry) (d : Deed) → IsNoAsk d → NoReads (step size q clock list s (Does d))
does_none size q clock list s d h =
    then_base q clock s (does q clock list s d) (deed_none q clock list s d h)
