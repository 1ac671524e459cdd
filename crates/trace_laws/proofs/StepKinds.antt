-- Each step of the machine is of one of a few kinds.
use Rattle.std.proofs.Common.{◌≡◌, ℕ, ◌+◌, ◌-◌, ◌/◌, ◌||◌, arith, ◌==◌, true, List, [], ◌∷◌, ◌++◌, append-nil, length, take, drop, Option, Some, None, refl, ap, subst, nat_lt, nat_le, if◌then◌else◌}
use Rattle.std.specs.List.{AllByRecursion}
use Rattle.std.proofs.lemmas.List.{length-take}
use Rattle.harp_types.specs.declared.call.Call.{Call}
use Rattle.harp_types.specs.declared.cred.Cred.{Cred}
use Rattle.harp_types.specs.Update.{is_update}
use Rattle.file_tree.specs.Book.{Entry, last_of}
use Rattle.group_rules.specs.Ask.{append, hint_of, new_entry, on_ask, read_entry, refuse, update_moves}
use Rattle.group_rules.specs.Choose.{choose}
use Rattle.group_rules.specs.Disk.{demote_tests, flush_tests, settled_tests}
use Rattle.group_rules.specs.Effects.{NewLog, report_of, taken}
use Rattle.group_rules.specs.Form.{accept_moves, adopted, fits, form_moves, on_give, pull_tests, role_of, wanted}
use Rattle.group_rules.specs.Joining.{chosen_moves, joined_tests, on_join, suspect, to_each}
use Rattle.group_rules.specs.Limits.{is_active, is_joins, is_open, is_pulls, limit, room}
use Rattle.group_rules.specs.Misfits.{misfits}
use Rattle.group_rules.specs.Moves.{Accepting, Appending, Choosing, Collecting, Committing, Falling, Heeding, Joining, Move, Noting, Pulling, Reading, Saving, Saying, Sending, Staging, acts}
use Rattle.group_rules.specs.Open.{base_tests, formed_tests, open_heard, open_tests, rebase, try_open}
use Rattle.group_rules.specs.Places.{Zero, One, Two, Place, Trio, all_of, get, is_s01, leader, other_storers, partner, same, with_at}
use Rattle.group_rules.specs.Replicate.{ack_tests, answers, is_in_view, on_ack, on_event}
use Rattle.group_rules.specs.Serving.{held_tests, serving_accepted, serving_joined}
use Rattle.group_rules.specs.State.{Ack, Answers, BadClient, Beat, Cause, Chose, Collects, Demote, Duty, Event, Fetch, Form, Formed, Give, Invite, Join, LogFull, Message, NoDuty, NoPromise, NotLeader, NotYetOpen, Old, Open, Plan, Report, Server, top}
use Rattle.group_rules.specs.Step.{Apply, Ask, Comes, Crash, Deed, Does, Flush, Input, ListTree, Power, Suspect, Tick, does, on_message, rule, step as step_moves}
use Rattle.group_rules.specs.Tick.{again, again_tests, beats, duties, duty_tests, events, invite_again, tick}
use Rattle.group_rules.proofs.Tests.{by_if, each_of, is_eq', is_le, is_lt, not_le}
use Rattle.group_safety.proofs.Modes.{open_is}
use Rattle.trace_laws.proofs.MoveKinds.{IsMild, AreFront, AreTail, AreEnd, AreMild, end_if, end_both, ends_tail, mild, accepts, heeds, IsAsked, Kind, plain, appends, reads, repeats, notes, commits, each-append, tail_if, mild_if, tails_mild, fronts_mild, Parts, quiet_part, accepting_part, part_plain, part_if, part_behind, kind_then, kind_if}

pub end_open : (q : Place) (clock : ℕ) (s : Server Entry) → AreEnd (try_open q clock s)
end_open q clock s = end_if (all_of (open_tests q s)) _ []
    (heard (get s.heard (partner s.plan.storers))) tt
  where
    heard : (o : Option ℕ) → AreEnd (open_heard clock s o)
    heard None = tt
    heard (Some lb) = end_if (nat_le (s.plan.horizon + 50) clock) _ [] (
      tt,
      end_both _ _ (end_if (is_s01 s.plan.storers) _ [] (tt, tt) tt) (tt, tt),
    ) tt

end_each : (m : Message Entry) (ps : List Place) → AreEnd (to_each m ps)
end_each m [] = tt
end_each m (p ∷ ps) = (tt, end_each m ps)

end_events : (to : Place) (v cp base n : ℕ) (es : List Entry) → AreEnd (events to v cp base n es)
end_events to v cp base n [] = tt
end_events to v cp base n (e ∷ es) = (tt, end_events to v cp base (n + 1) es)

end_invite : (v : ℕ) (p : Place) (o : Option Report) → AreEnd (invite_again v p o)
end_invite v p None = (tt, tt)
end_invite v p (Some t) = tt

end_duties : (q : Place) (s : Server Entry) (d : Duty) → AreEnd (duties q s d)
end_duties q s NoDuty = tt
end_duties q s (Collects reports) = end_both _ _ (end_invite s.promised Zero (get reports Zero))
    (end_both _ _ (end_invite s.promised One (get reports One)) (end_invite s.promised Two
    (get reports Two)))
end_duties q s (Chose v plan) = end_if (all_of (duty_tests q s v plan)) _ []
    (end_each (Form v plan) (other_storers q plan.storers)) tt

end_again : (q : Place) (s : Server Entry) → AreEnd (again q s)
end_again q s = end_both _ _ (end_if (is_pulls s.mode) _ [] (tt, tt) tt)
    (end_if (all_of (again_tests q s)) _ [] (tt, tt) tt)

pub tick_end : (q : Place) (clock : ℕ) (s : Server Entry) → AreEnd (tick q clock s)
tick_end q clock s =
    let first = if is_open s.mode then beats s else try_open q clock s in
    let s' = acts q clock s first in
    end_both first (duties q s' s'.duty ++ again q s')
    (end_if (is_open s.mode) (beats s) (try_open q clock s) (tt, end_events _ _ _ _ _ _)
    (end_open q clock s))
    (end_both (duties q s' s'.duty) (again q s') (end_duties q s' s'.duty) (end_again q s'))

pub tail_base : (s : Server Entry) → AreTail (rebase s)
tail_base s = tail_if (all_of (base_tests s)) _ [] (tt, tt) tt

mild_plain : (q : Place) (clock : ℕ) (s : Server Entry) (i : Input) (ms : List (Move Entry))
    → AreMild ms → Kind q clock s i ms
mild_plain q clock s i ms h = plain ms (mild ms h)

suspect_mild : (q : Place) (s : Server Entry) → AreMild (suspect q s)
suspect_mild q s = mild_if (nat_lt (s.promised / 3) limit) _ [] (
  tt,
  tails_mild _ (ends_tail _ (end_each _ _)),
) tt

refused : (q : Place) (clock : ℕ) (s : Server Entry) (i : Input) (client number : ℕ)
    (cause : Cause) → Kind q clock s i (refuse client number cause)
refused q clock s i client number cause = mild_plain q clock s i (refuse client number cause) (
  tt,
  tt,
)

append_kind : (q : Place) (clock : ℕ) (s : Server Entry) (i : Input) (e : Entry) → s.mode ≡ Open
    → IsAsked i e → is_update e.call ≡ true → Kind q clock s i (append s e)
append_kind q clock s i e o a u = kind_if q clock s i (nat_le room (length s.items)
    || nat_le limit (top s)) _ _
    (λ _. refused q clock s i e.client e.number LogFull)
    (λ _. appends e (Sending (partner s.plan.storers)
    (Event s.accepted (top s + 1) s.cp s.base e) ∷ []) o a u (tt, tt))

update_kind : (q : Place) (clock : ℕ) (s : Server Entry) (i : Input) (e : Entry)
    (last : Option Entry) → s.mode ≡ Open → IsAsked i e → is_update e.call ≡ true
    → Kind q clock s i (update_moves s e last)
update_kind q clock s i e None o a u = append_kind q clock s i e o a u
update_kind q clock s i e (Some l) o a u = kind_if q clock s i (e.number == l.number) _ _
    (λ _. kind_if q clock s i (nat_le l.index s.cp) (Saying (Answers l.index l) ∷ []) []
    (λ t. repeats l.index l e.client e.number e.cred e.call [] o a u (is_le l.index s.cp t) tt)
    (λ _. mild_plain q clock s i [] tt))
    (λ _. kind_if q clock s i (nat_lt e.number l.number) _ _
    (λ _. refused q clock s i e.client e.number Old) (λ _. append_kind q clock s i e o a u))

ask_kind : (q : Place) (clock : ℕ) (list : List Entry) (s : Server Entry) (client number : ℕ)
    (cred : Cred) (c : Call) → Kind q clock s (Does (Ask client number cred c))
    (on_ask q clock list s client number cred c)
ask_kind q clock list s client number cred c =
    let i = Does (Ask client number cred c) in
    kind_if q clock s i (nat_lt 4095 client) _ _ (λ _. refused q clock s i client number BadClient)
    (λ _. kind_if q clock s i (all_of (is_active s.mode ∷ same q (leader s.plan.storers) ∷ [])) _ _
    (λ _. kind_if q clock s i (is_open s.mode) _ _
    (λ o. kind_if q clock s i (is_update c) _ _
    (λ u. update_kind q clock s i (new_entry clock list client number cred c) (last_of client list)
    (open_is s.mode o) refl u)
    (λ u. kind_if q clock s i (nat_le s.grant clock) _ _
    (λ _. refused q clock s i client number NoPromise)
    (λ n. reads (read_entry s.cp list client number cred c) [] (open_is s.mode o) refl u
    (not_le s.grant clock n) tt)))
    (λ _. refused q clock s i client number NotYetOpen))
    (λ _. refused q clock s i client number (NotLeader (hint_of q s.role))))

does_kind : (q : Place) (clock : ℕ) (list : List Entry) (s : Server Entry) (d : Deed)
    → Kind q clock s (Does d) (does q clock list s d)
does_kind q clock list s Tick = mild_plain q clock s (Does Tick) _
    (tails_mild _ (ends_tail _ (tick_end q clock s)))
does_kind q clock list s Suspect = mild_plain q clock s (Does Suspect) _ (suspect_mild q s)
does_kind q clock list s (Ask client number cred c) = ask_kind q clock list s client number cred c
does_kind q clock list s (Apply n) = mild_plain q clock s (Does (Apply n)) _
    (mild_if (all_of (settled_tests q s)) _ [] (tt, tt) tt)
does_kind q clock list s Flush = mild_plain q clock s (Does Flush) _
    (mild_if (all_of (flush_tests q s)) _ [] (tt, tt) tt)
does_kind q clock list s ListTree = mild_plain q clock s (Does ListTree) _
    (mild_if (all_of (settled_tests q s)) _ [] (tt, tt) tt)
does_kind q clock list s Power = mild_plain q clock s (Does Power) (Saving ∷ []) (tt, tt)
does_kind q clock list s Crash = mild_plain q clock s (Does Crash) (Falling ∷ []) (tt, tt)

accept_part : (q : Place) (s : Server Entry) (plan : Plan) (staged : List Entry)
    → Parts q (accept_moves q s plan staged)
accept_part q s plan staged = accepting_part plan (adopted q s plan staged) [] _ tt
    (tail_if (same q (partner plan.storers)) _ [] (tt, tt) tt)

form_part : (q : Place) (s : Server Entry) (plan : Plan) → Parts q (form_moves q s plan)
form_part q s plan = part_if q (all_of (is_joins s.mode ∷ fits q s plan ∷ [])) _ []
    (part_if q (same q plan.source || (wanted q s plan == plan.start)) _ _
    (accept_part q s plan [])
    (quiet_part (Pulling plan (wanted q s plan)
    ∷ Sending plan.source (Fetch s.promised (wanted q s plan + 1)) ∷ []) (tt, (tt, tt))))
    (quiet_part [] tt)

front_each : (m : Message Entry) (ps : List Place) → AreFront (to_each m ps)
front_each m [] = tt
front_each m (p ∷ ps) = (tt, front_each m ps)

choice_part : (q : Place) (s : Server Entry) (reports : Trio (Option Report)) (o : Option Plan)
    → Parts q (chosen_moves q s reports o)
choice_part q s reports None = quiet_part (Collecting reports ∷ []) (tt, tt)
choice_part q s reports (Some plan) = part_behind q (Collecting reports ∷ Choosing plan _ ∷ []) _
    (tt, (tt, tt))
    (part_behind q (to_each (Form s.promised plan) (other_storers q plan.storers)) _
    (front_each _ _)
    (form_part q (record s { duty = Chose s.promised plan }) plan))

join_part : (q : Place) (s : Server Entry) (from : Place) (v : ℕ) (t : Report) (d : Duty)
    → Parts q (on_join q s from v t d)
join_part q s from v t NoDuty = quiet_part [] tt
join_part q s from v t (Chose w plan) = quiet_part [] tt
join_part q s from v t (Collects reports) = part_if q (v == s.promised) _ []
    (choice_part q s (with_at reports from (Some t)) (choose (with_at reports from (Some t))))
    (quiet_part [] tt)

give_part : (q : Place) (s : Server Entry) (v index : ℕ) (items : List Entry)
    → Parts q (on_give q s v index items)
give_part q s v index items = part_if q (all_of (pull_tests s v index items)) _ []
    (part_if q (s.wanted_from + length (s.staged ++ items) == s.plan.start) _ _
    (accept_part q s s.plan (s.staged ++ items))
    (quiet_part (Staging (s.staged ++ items)
    ∷ Sending s.plan.source (Fetch s.promised (s.wanted_from + length (s.staged
    ++ items) + 1)) ∷ []) (tt, (tt, tt))))
    (quiet_part [] tt)

event_kind : (q : Place) (clock : ℕ) (s : Server Entry) (i : Input) (from : Place) (v cp base : ℕ)
    (items : List Entry) → Kind q clock s i (on_event q clock s from v cp base items)
event_kind q clock s i from v cp base items =
    kind_if q clock s i (all_of (is_in_view s v ∷ same q (partner s.plan.storers) ∷ [])) _ []
    (λ _. plain _ (heeds items cp base _ (tt, tt)))
    (λ _. mild_plain q clock s i [] tt)

ack_kind : (q : Place) (clock : ℕ) (s : Server Entry) (from : Place) (v t lb until : ℕ)
    → Kind q clock s (Comes from (Ack v t lb until)) (on_ack s v t lb until)
ack_kind q clock s from v t lb until =
    let i = Comes from (Ack v t lb until) in
    kind_if q clock s i (all_of (ack_tests s v)) _ []
    (λ x.
    let a = each_of (ack_tests s v) x in
    let open' = open_is s.mode a.0 in
    let same' : v ≡ s.accepted = is_eq' v s.accepted a.1.0 in
    let is : i ≡ Comes from (Ack s.accepted t lb until) =
    ap (λ v. Comes from (Ack v t lb until)) same' in
    let es = take (t - s.cp) (drop (s.cp - s.base) s.items) in
    by_if (λ ms. Kind q clock s i (Noting t lb until ∷ ms)) (nat_lt s.cp t) (Committing t
    ∷ answers s.cp es) []
    (λ l. subst (λ ms. Kind q clock s i (Noting t lb until ∷ Committing t ∷ ms))
    (append-nil (answers s.cp es))
    (commits from t lb until es [] open' is (is_lt s.cp t l) (let k =
    length-take (t - s.cp) (drop (s.cp - s.base) s.items) in omega arith) tt))
    (λ _. notes from t lb until [] open' is tt))
    (λ _. mild_plain q clock s i [] tt)

message_kind : (size : List Entry → Entry → ℕ) (q : Place) (clock : ℕ) (list : List Entry)
    (s : Server Entry) (from : Place) (m : Message Entry)
    → Kind q clock s (Comes from m) (on_message size q clock list s from m)
message_kind size q clock list s from (Invite v) =
    mild_plain q clock s _ _ (mild_if (nat_lt s.promised v) (Joining v NoDuty
    ∷ Sending from (Join v (report_of s)) ∷ []) _ (
      tt,
      (tt, tt),
    ) (mild_if (all_of (joined_tests s v)) _ [] (tt, tt) tt))
message_kind size q clock list s from (Join v t) =
    plain _ (part_plain q _ (join_part q s from v t s.duty))
message_kind size q clock list s from (Form v plan) =
    plain _ (part_plain q _ (part_if q (v == s.promised) _ [] (form_part q s plan)
    (quiet_part [] tt)))
message_kind size q clock list s from (Fetch v index) =
    mild_plain q clock s _ _ (mild_if (all_of (serving_joined s v)) _ _
    (mild_if (all_of (held_tests s index (top s))) _ [] (tt, tt) tt)
    (mild_if (all_of (serving_accepted s v)) _ []
    (mild_if (all_of (held_tests s index s.served)) _ [] (tt, tt) tt) tt))
message_kind size q clock list s from (Give v index items) =
    plain _ (part_plain q _ (give_part q s v index items))
message_kind size q clock list s from (Formed v lb) =
    mild_plain q clock s _ _ (mild_if (all_of (formed_tests s v)) _ [] (tt, tt) tt)
message_kind size q clock list s from (Event v index cp base e) =
    event_kind q clock s _ from v cp base (taken s index e)
message_kind size q clock list s from (Beat v cp base) =
    event_kind q clock s _ from v cp base s.items
message_kind size q clock list s from (Ack v t lb until) = ack_kind q clock s from v t lb until
message_kind size q clock list s from (Demote v) =
    mild_plain q clock s _ _ (mild_if (all_of (demote_tests q s v)) _ [] (tt, tt) tt)

rule_kind : (size : List Entry → Entry → ℕ) (q : Place) (clock : ℕ) (list : List Entry)
    (s : Server Entry) (i : Input) → Kind q clock s i (rule size q clock list s i)
rule_kind size q clock list s (Does d) = does_kind q clock list s d
rule_kind size q clock list s (Comes from m) =
    let ms = on_message size q clock list s from m in
    kind_if q clock s (Comes from m) (misfits q s from m) [] _ (λ _. mild_plain q clock s _ [] tt)
    (λ _. kind_then q clock s (Comes from m) ms (try_open q clock (acts q clock s ms))
    (message_kind size q clock list s from m) (ends_tail _ (end_open q clock (acts q clock s ms))))

-- each step is of a kind
pub step_kind : (size : List Entry → Entry → ℕ) (q : Place) (clock : ℕ) (list : List Entry)
    (s : Server Entry) (i : Input) → Kind q clock s i (step_moves size q clock list s i)
step_kind size q clock list s i =
    let ms = rule size q clock list s i in
    kind_then q clock s i ms (rebase (acts q clock s ms)) (rule_kind size q clock list s i)
    (tail_base (acts q clock s ms))

-- of each kind of move by itself
pub record OfEach (s : Server Entry) (i : Input) (P : Move Entry → Type 0) : Type 0 where
  pub quiet : (m : Move Entry) → IsMild m → P m
  pub accept : (plan : Plan) (q : Place) (n : NewLog Entry)
      → P (Accepting plan (role_of plan.storers q) n)
  pub heed : (items : List Entry) (cp base : ℕ) → P (Heeding items cp base)
  pub append : (e : Entry) → IsAsked i e → P (Appending e)
  pub read : (n : ℕ) (e : Entry) → P (Reading n e)
  pub answer : (n : ℕ) (e : Entry) → P (Saying (Answers n e))
  pub note : (t lb until : ℕ) → P (Noting t lb until)
  pub commit : (t : ℕ) → P (Committing t)

milds_each : (s : Server Entry) (i : Input) (P : Move Entry → Type 0) → OfEach s i P
    → (ms : List (Move Entry)) → AreMild ms → AllByRecursion P ms
milds_each s i P h [] a = tt
milds_each s i P h (m ∷ ms) a = (h.quiet m a.0, milds_each s i P h ms a.1)

answers_each : (s : Server Entry) (i : Input) (P : Move Entry → Type 0) → OfEach s i P
    → (n : ℕ) (es : List Entry) → AllByRecursion P (answers n es)
answers_each s i P h n [] = tt
answers_each s i P h n (e ∷ es) = (h.answer (n + 1) e, answers_each s i P h (n + 1) es)

pub kind_each : (q : Place) (clock : ℕ) (s : Server Entry) (i : Input) (P : Move Entry → Type 0)
    → OfEach s i P → (ms : List (Move Entry)) → Kind q clock s i ms → AllByRecursion P ms
kind_each q clock s i P h _ (plain _ (mild ms m)) = milds_each s i P h ms m
kind_each q clock s i P h _ (plain _ (accepts plan n before after f t)) =
    each-append P before (Accepting plan (role_of plan.storers q) n ∷ after)
    (milds_each s i P h before (fronts_mild before f)) (
      h.accept plan q n,
      milds_each s i P h after (tails_mild after t),
    )
kind_each q clock s i P h _ (plain _ (heeds items cp base after t)) = (
  h.heed items cp base,
  milds_each s i P h after (tails_mild after t),
)
kind_each q clock s i P h _ (appends e after o is u t) = (
  h.append e is,
  milds_each s i P h after (tails_mild after t),
)
kind_each q clock s i P h _ (reads e after o is u l t) = (
  h.read s.cp e,
  milds_each s i P h after (tails_mild after t),
)
kind_each q clock s i P h _ (repeats index e client number cred call after o is u l t) =
    (h.answer index e, milds_each s i P h after (tails_mild after t))
kind_each q clock s i P h _ (notes from t lb until after o is tail) = (
  h.note t lb until,
  milds_each s i P h after (tails_mild after tail),
)
kind_each q clock s i P h _ (commits from t lb until es after o is l few tail) = (
  h.note t lb until,
  (
    h.commit t,
    each-append P (answers s.cp es) after (answers_each s i P h s.cp es)
        (milds_each s i P h after (tails_mild after tail)),
  ),
)
