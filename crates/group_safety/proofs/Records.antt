-- How many records a server has after a step.
use Rattle.std.proofs.Common.{◌≡◌, ℕ, ◌+◌, ◌-◌, ◌/◌, ◌≤◌, ◌||◌, ◌==◌, Bool, true, false, List, [], ◌∷◌, ◌++◌, length, Option, None, Some, take, refl, sym, ap, ◌∙◌, subst, arith, le_trans, le_refl, zero-le, nat_lt, nat_le, if◌then◌else◌, length-append}
use Rattle.std.specs.Prelude.{⊤}
use Rattle.std.proofs.lemmas.List.{length-drop, length-take}
use Rattle.harp_types.specs.declared.call.Call.{Call}
use Rattle.harp_types.specs.Update.{is_update}
use Rattle.harp_types.specs.declared.cred.Cred.{Cred}
use Rattle.file_tree.specs.Book.{Entry, last_of}
use Rattle.group_rules.specs.Ask.{append, new_entry, on_ask, update_moves}
use Rattle.group_rules.specs.Choose.{choose}
use Rattle.group_rules.specs.Disk.{demote_tests, flush_tests, settled_tests}
use Rattle.group_rules.specs.Effects.{demoted_by, report_of, taken}
use Rattle.group_rules.specs.Form.{accept_moves, adopted, fits, form_moves, keeps, role_of, wanted}
use Rattle.group_rules.specs.Joining.{chosen_moves, joined_tests, on_join, to_each}
use Rattle.group_safety.specs.Laws.{DeedGrows, DeliveryGrows, log_length}
use Rattle.group_rules.specs.Limits.{is_active, is_joins, is_open, is_pulls, limit, room}
use Rattle.group_rules.specs.Misfits.{misfits}
use Rattle.group_rules.specs.Moves.{Accepting, Appending, Basing, Booting, Demoting, Falling, Heeding, Joining, Move, Pulling, Saving, Sending, act, acts, moved, moved_by}
use Rattle.group_rules.specs.Open.{and_then, base_tests, formed_tests, open_heard, open_tests, rebase, try_open}
use Rattle.group_rules.specs.Places.{Zero, One, Two, Place, Trio, all_of, get, is_s01, leader, number, other_storers, partner, same, with_at}
use Rattle.group_rules.specs.Replicate.{ack_tests, answers, is_in_view, on_event}
use Rattle.group_rules.specs.Serving.{held_tests, serving_accepted, serving_joined}
use Rattle.group_rules.specs.State.{Ack, Beat, Chose, Collects, Demote, Duty, Event, Fetch, Form, Formed, Give, Group, Invite, Join, Message, NoDuty, Packet, Plan, Report, Server, top}
use Rattle.group_rules.specs.Step.{Apply, Ask, At, Comes, Crash, Deed, Deliver, Does, Flush, Input, ListTree, Power, Suspect, Tick, delivered, does, happens, list_of, numbered, on_message, rule, step, step_of, steps}
use Rattle.group_rules.specs.Tick.{again, again_tests, beats, duties, duty_tests, events, invite_again, tick}
use Rattle.group_rules.proofs.Tests.{by_if}
use Rattle.group_safety.proofs.Moving.{at_self}

-- a move that adds no record
abbrev pub Keeps : Move Entry → Type 0
Keeps (Appending e) = ⊥
Keeps (Heeding items cp base) = ⊥
Keeps (Accepting plan role n) = ⊥
Keeps (Booting d) = ⊥
Keeps m = ⊤

abbrev pub KeepsAll : List (Move Entry) → Type 0
KeepsAll [] = ⊤
KeepsAll (m ∷ ms) = Keeps m × KeepsAll ms

demoted_keeps : (s : Server Entry) (v : ℕ) (b : Bool) → length (demoted_by b s v).items ≤ length s.items
demoted_keeps s v true = zero-le
demoted_keeps s v false = zero-le

move_keeps : (q : Place) (clock : ℕ) (s : Server Entry) (m : Move Entry) → Keeps m → length (act q clock s m).items ≤ length s.items
move_keeps q clock s (Basing n) k = let a = length-drop (n - s.base) s.items in omega arith
move_keeps q clock s (Demoting v) k = demoted_keeps s v (nat_lt v s.promised)
move_keeps q clock s Saving k = zero-le
move_keeps q clock s Falling k = zero-le
move_keeps q clock s (Appending e) k = absurd k
move_keeps q clock s (Heeding items cp base) k = absurd k
move_keeps q clock s (Accepting plan role n) k = absurd k
move_keeps q clock s (Booting d) k = absurd k
move_keeps q clock s m k = le_refl _

-- the moves add at most n records
pub record Adds (n : ℕ) (q : Place) (clock : ℕ) (s : Server Entry) (ms : List (Move Entry)) : Type 0 where
  pub most : length (acts q clock s ms).items ≤ length s.items + n

acts_both : (q : Place) (clock : ℕ) (a b : List (Move Entry)) (s : Server Entry) → acts q clock s (a ++ b) ≡ acts q clock (acts q clock s a) b
acts_both q clock [] b s = refl
acts_both q clock (m ∷ a) b s = acts_both q clock a b (act q clock s m)

keeps_most : (q : Place) (clock : ℕ) (ms : List (Move Entry)) (s : Server Entry) → KeepsAll ms → length (acts q clock s ms).items ≤ length s.items
keeps_most q clock [] s k = le_refl _
keeps_most q clock (m ∷ ms) s k = le_trans (keeps_most q clock ms (act q clock s m) k.1) (move_keeps q clock s m k.0)

keeping : (q : Place) (clock : ℕ) (s : Server Entry) (ms : List (Move Entry)) → KeepsAll ms → Adds 0 q clock s ms
keeping q clock s ms k = record { most = let a = keeps_most q clock ms s k in omega arith }

-- moves that add n, and then moves that add none
adds_then : (n : ℕ) (q : Place) (clock : ℕ) (s : Server Entry) (ms : List (Move Entry)) (next : Server Entry → List (Move Entry)) → Adds n q clock s ms → ((s : Server Entry) → KeepsAll (next s)) → Adds n q clock s (and_then q clock s ms next)
adds_then n q clock s ms next h k = record {
  most =
      let s' = acts q clock s ms in
      let a = keeps_most q clock (next s') s' (k s') in
      let b = h.most in
      subst (λ (x : Server Entry). length x.items ≤ length s.items + n) (sym (acts_both q clock ms (next s') s)) (omega arith);
}

adds_if : (n : ℕ) (q : Place) (clock : ℕ) (s : Server Entry) (b : Bool) (x y : List (Move Entry)) → Adds n q clock s x → Adds n q clock s y → Adds n q clock s (if b then x else y)
adds_if n q clock s b x y h k = by_if (λ ms. Adds n q clock s ms) b x y (λ _. h) (λ _. k)

keeps_if : (b : Bool) (x y : List (Move Entry)) → KeepsAll x → KeepsAll y → KeepsAll (if b then x else y)
keeps_if b x y h k = by_if (λ ms. KeepsAll ms) b x y (λ _. h) (λ _. k)

keeps_both : (a b : List (Move Entry)) → KeepsAll a → KeepsAll b → KeepsAll (a ++ b)
keeps_both [] b h k = k
keeps_both (m ∷ a) b h k = (h.0, keeps_both a b h.1 k)

keeps_each : (m : Message Entry) (ps : List Place) → KeepsAll (to_each m ps)
keeps_each m [] = tt
keeps_each m (p ∷ ps) = (tt, keeps_each m ps)

keeps_events : (to : Place) (v cp base n : ℕ) (es : List Entry) → KeepsAll (events to v cp base n es)
keeps_events to v cp base n [] = tt
keeps_events to v cp base n (e ∷ es) = (tt, keeps_events to v cp base (n + 1) es)

keeps_answers : (n : ℕ) (es : List Entry) → KeepsAll (answers n es)
keeps_answers n [] = tt
keeps_answers n (e ∷ es) = (tt, keeps_answers (n + 1) es)

keeps_open : (q : Place) (clock : ℕ) (s : Server Entry) → KeepsAll (try_open q clock s)
keeps_open q clock s = keeps_if (all_of (open_tests q s)) _ [] (heard (get s.heard (partner s.plan.storers))) tt
  where
    heard : (o : Option ℕ) → KeepsAll (open_heard clock s o)
    heard None = tt
    heard (Some lb) = keeps_if (nat_le (s.plan.horizon + 50) clock) _ [] (tt, keeps_both _ _ (keeps_if (is_s01 s.plan.storers) _ [] (tt, tt) tt) (tt, tt)) tt

keeps_base : (s : Server Entry) → KeepsAll (rebase s)
keeps_base s = keeps_if (all_of (base_tests s)) _ [] (tt, tt) tt

keeps_invite : (v : ℕ) (p : Place) (o : Option Report) → KeepsAll (invite_again v p o)
keeps_invite v p None = (tt, tt)
keeps_invite v p (Some t) = tt

keeps_duties : (q : Place) (s : Server Entry) (d : Duty) → KeepsAll (duties q s d)
keeps_duties q s NoDuty = tt
keeps_duties q s (Collects reports) = keeps_both _ _ (keeps_invite s.promised Zero (get reports Zero)) (keeps_both _ _ (keeps_invite s.promised One (get reports One)) (keeps_invite s.promised Two (get reports Two)))
keeps_duties q s (Chose v plan) = keeps_if (all_of (duty_tests q s v plan)) _ [] (keeps_each (Form v plan) (other_storers q plan.storers)) tt

keeps_again : (q : Place) (s : Server Entry) → KeepsAll (again q s)
keeps_again q s = keeps_both _ _ (keeps_if (is_pulls s.mode) _ [] (tt, tt) tt) (keeps_if (all_of (again_tests q s)) _ [] (tt, tt) tt)

tick_adds : (q : Place) (clock : ℕ) (s : Server Entry) → Adds 0 q clock s (tick q clock s)
tick_adds q clock s = adds_then 0 q clock s (if is_open s.mode then beats s else try_open q clock s) (λ s. duties q s s.duty ++ again q s)
    (keeping q clock s _ (keeps_if (is_open s.mode) _ _ (tt, keeps_events _ _ _ _ _ _) (keeps_open q clock s)))
    (λ s. keeps_both _ _ (keeps_duties q s s.duty) (keeps_again q s))

append_adds : (q : Place) (clock : ℕ) (s : Server Entry) (e : Entry) → Adds 1 q clock s (append s e)
append_adds q clock s e = adds_if 1 q clock s (nat_le room (length s.items) || nat_le limit (top s)) _ _
    (record { most = omega arith })
    (record { most = let a = length-append s.items (e ∷ []) in omega arith })

one_more : (q : Place) (clock : ℕ) (s : Server Entry) (ms : List (Move Entry)) → Adds 0 q clock s ms → Adds 1 q clock s ms
one_more q clock s ms h = record { most = let a = h.most in omega arith }

update_adds : (q : Place) (clock : ℕ) (s : Server Entry) (e : Entry) (o : Option Entry) → Adds 1 q clock s (update_moves s e o)
update_adds q clock s e None = append_adds q clock s e
update_adds q clock s e (Some last) = adds_if 1 q clock s (e.number == last.number) _ _
    (one_more q clock s _ (keeping q clock s _ (keeps_if (nat_le last.index s.cp) _ [] (tt, tt) tt)))
    (adds_if 1 q clock s (nat_lt e.number last.number) _ _ (one_more q clock s _ (keeping q clock s _ (tt, tt))) (append_adds q clock s e))

ask_adds : (q : Place) (clock : ℕ) (list : List Entry) (s : Server Entry) (client number : ℕ) (cred : Cred) (c : Call) → Adds 1 q clock s (on_ask q clock list s client number cred c)
ask_adds q clock list s client number cred c = adds_if 1 q clock s (nat_lt 4095 client) _ _ (one_more q clock s _ (keeping q clock s _ (tt, tt)))
    (adds_if 1 q clock s (all_of (is_active s.mode ∷ same q (leader s.plan.storers) ∷ [])) _ _
    (adds_if 1 q clock s (is_open s.mode) _ _
    (adds_if 1 q clock s (is_update c) _ _ (update_adds q clock s (new_entry clock list client number cred c) (last_of client list))
    (one_more q clock s _ (keeping q clock s _ (keeps_if (nat_le s.grant clock) _ _ (tt, tt) (tt, tt)))))
    (one_more q clock s _ (keeping q clock s _ (tt, tt))))
    (one_more q clock s _ (keeping q clock s _ (tt, tt))))

-- accepting without staged records
accept_adds : (q : Place) (clock : ℕ) (s : Server Entry) (plan : Plan) → Adds 0 q clock s (accept_moves q s plan [])
accept_adds q clock s plan =
    let s' = act q clock s (Accepting plan (role_of plan.storers q) (adopted q s plan [])) in
    let few : length s'.items ≤ length s.items = by_if (λ (xs : List Entry). length xs ≤ length s.items) (same q plan.source) _ _
    (λ _. let a = length-drop (plan.base - s.base) s.items in omega arith)
    (λ _. by_if (λ (xs : List Entry). length xs ≤ length s.items) (keeps q s plan) _ _
    (λ _.
    let a = length-drop (plan.base - s.base) (take (s.cp - s.base) s.items ++ []) in
    let b = length-append (take (s.cp - s.base) s.items) [] in
    let c = length-take (s.cp - s.base) s.items in
    omega arith)
    (λ _. zero-le)) in
    record { most = let rest = keeps_most q clock _ s' (keeps_if (same q (partner plan.storers)) (Sending (leader plan.storers) (Formed s.promised (adopted q s plan []).lb) ∷ []) [] (tt, tt) tt) in omega arith }

form_adds : (q : Place) (clock : ℕ) (s : Server Entry) (plan : Plan) → Adds 0 q clock s (form_moves q s plan)
form_adds q clock s plan = adds_if 0 q clock s (all_of (is_joins s.mode ∷ fits q s plan ∷ [])) _ []
    (adds_if 0 q clock s (same q plan.source || (wanted q s plan == plan.start)) _ _ (accept_adds q clock s plan) (keeping q clock s (Pulling plan (wanted q s plan) ∷ Sending plan.source (Fetch s.promised (wanted q s plan + 1)) ∷ []) (tt, (tt, tt))))
    (keeping q clock s [] tt)

sends_stay : (q : Place) (clock : ℕ) (s : Server Entry) (m : Message Entry) (ps : List Place) → acts q clock s (to_each m ps) ≡ s
sends_stay q clock s m [] = refl
sends_stay q clock s m (p ∷ ps) = sends_stay q clock s m ps

choice_adds : (q : Place) (clock : ℕ) (s : Server Entry) (reports : Trio (Option Report)) (o : Option Plan) → Adds 0 q clock s (chosen_moves q s reports o)
choice_adds q clock s reports None = keeping q clock s _ (tt, tt)
choice_adds q clock s reports (Some plan) =
    let s' = record s { duty = Chose s.promised plan } in
    let sends = to_each (Form s.promised plan) (other_storers q plan.storers) in
    record {
      most = subst (λ (x : Server Entry). length x.items ≤ length s.items + 0)
          (sym (acts_both q clock sends (form_moves q s' plan) s' ∙ ap (λ (x : Server Entry). acts q clock x (form_moves q s' plan)) (sends_stay q clock s' (Form s.promised plan) (other_storers q plan.storers))))
          (form_adds q clock s' plan).most;
    }

join_adds : (q : Place) (clock : ℕ) (s : Server Entry) (from : Place) (v : ℕ) (t : Report) (d : Duty) → Adds 0 q clock s (on_join q s from v t d)
join_adds q clock s from v t NoDuty = keeping q clock s [] tt
join_adds q clock s from v t (Chose w plan) = keeping q clock s [] tt
join_adds q clock s from v t (Collects reports) = adds_if 0 q clock s (v == s.promised) _ [] (choice_adds q clock s (with_at reports from (Some t)) (choose (with_at reports from (Some t)))) (keeping q clock s [] tt)

event_adds : (n : ℕ) (q : Place) (clock : ℕ) (s : Server Entry) (from : Place) (v cp base : ℕ) (items : List Entry) → length items ≤ length s.items + n → Adds n q clock s (on_event q clock s from v cp base items)
event_adds n q clock s from v cp base items le = adds_if n q clock s (all_of (is_in_view s v ∷ same q (partner s.plan.storers) ∷ [])) _ []
    (record { most = let a = length-drop (base - s.base) items in omega arith })
    (record { most = omega arith })

taken_adds : (s : Server Entry) (index : ℕ) (e : Entry) → length (taken s index e) ≤ length s.items + 1
taken_adds s index e = by_if (λ (xs : List Entry). length xs ≤ length s.items + 1) (index == top s + 1) _ s.items
    (λ _. let a = length-append s.items (e ∷ []) in omega arith)
    (λ _. omega arith)

-- a Give
abbrev pub Given : Message Entry → Type 0
Given (Give v index items) = ⊤
Given m = ⊥

-- what a message may add
abbrev pub most_of : Message Entry → ℕ
most_of (Event v index cp base e) = 1
most_of m = 0

message_adds : (size : List Entry → Entry → ℕ) (q : Place) (clock : ℕ) (list : List Entry) (s : Server Entry) (from : Place) (m : Message Entry) → (Given m → ⊥) → Adds (most_of m) q clock s (on_message size q clock list s from m)
message_adds size q clock list s from (Invite v) n = keeping q clock s _ (keeps_if (nat_lt s.promised v) (Joining v NoDuty ∷ Sending from (Join v (report_of s)) ∷ []) _ (tt, (tt, tt)) (keeps_if (all_of (joined_tests s v)) _ [] (tt, tt) tt))
message_adds size q clock list s from (Join v t) n = join_adds q clock s from v t s.duty
message_adds size q clock list s from (Form v plan) n = adds_if 0 q clock s (v == s.promised) _ [] (form_adds q clock s plan) (keeping q clock s [] tt)
message_adds size q clock list s from (Fetch v index) n = keeping q clock s _ (keeps_if (all_of (serving_joined s v)) _ _
    (keeps_if (all_of (held_tests s index (top s))) _ [] (tt, tt) tt)
    (keeps_if (all_of (serving_accepted s v)) _ [] (keeps_if (all_of (held_tests s index s.served)) _ [] (tt, tt) tt) tt))
message_adds size q clock list s from (Give v index items) n = absurd (n tt)
message_adds size q clock list s from (Formed v lb) n = keeping q clock s _ (keeps_if (all_of (formed_tests s v)) _ [] (tt, tt) tt)
message_adds size q clock list s from (Event v index cp base e) n = event_adds 1 q clock s from v cp base (taken s index e) (taken_adds s index e)
message_adds size q clock list s from (Beat v cp base) n = event_adds 0 q clock s from v cp base s.items (omega arith)
message_adds size q clock list s from (Ack v t lb until) n = keeping q clock s _ (keeps_if (all_of (ack_tests s v)) _ [] (tt, keeps_if (nat_lt s.cp t) _ [] (tt, keeps_answers _ _) tt) tt)
message_adds size q clock list s from (Demote v) n = keeping q clock s _ (keeps_if (all_of (demote_tests q s v)) _ [] (tt, tt) tt)

none : (q : Place) (clock : ℕ) (s : Server Entry) (ms : List (Move Entry)) → Adds 0 q clock s ms → length (acts q clock s (and_then q clock s ms rebase)).items ≤ length s.items
none q clock s ms h = let a = (adds_then 0 q clock s ms rebase h keeps_base).most in omega arith

deed_adds : (q : Place) (clock : ℕ) (list : List Entry) (s : Server Entry) (d : Deed) → DeedGrows d (length s.items) (length (acts q clock s (and_then q clock s (does q clock list s d) rebase)).items)
deed_adds q clock list s Tick = none q clock s _ (tick_adds q clock s)
deed_adds q clock list s Suspect = none q clock s _ (keeping q clock s _ (keeps_if (nat_lt (s.promised / 3) limit) _ [] (tt, keeps_each _ _) tt))
deed_adds q clock list s (Ask client number cred c) = (adds_then 1 q clock s (on_ask q clock list s client number cred c) rebase (ask_adds q clock list s client number cred c) keeps_base).most
deed_adds q clock list s (Apply n) = none q clock s _ (keeping q clock s _ (keeps_if (all_of (settled_tests q s)) _ [] (tt, tt) tt))
deed_adds q clock list s Flush = none q clock s _ (keeping q clock s _ (keeps_if (all_of (flush_tests q s)) _ [] (tt, tt) tt))
deed_adds q clock list s ListTree = none q clock s _ (keeping q clock s _ (keeps_if (all_of (settled_tests q s)) _ [] (tt, tt) tt))
deed_adds q clock list s Power = none q clock s (Saving ∷ []) (keeping q clock s (Saving ∷ []) (tt, tt))
deed_adds q clock list s Crash = none q clock s (Falling ∷ []) (keeping q clock s (Falling ∷ []) (tt, tt))

delivery_adds : (size : List Entry → Entry → ℕ) (q : Place) (clock : ℕ) (list : List Entry) (s : Server Entry) (from : Place) (m : Message Entry) → (Given m → ⊥)
    → length (acts q clock s (step size q clock list s (Comes from m))).items ≤ length s.items + most_of m
delivery_adds size q clock list s from m n = (adds_then (most_of m) q clock s (rule size q clock list s (Comes from m)) rebase
    (adds_if (most_of m) q clock s (misfits q s from m) [] _ (record { most = omega arith })
    (adds_then (most_of m) q clock s (on_message size q clock list s from m) (try_open q clock) (message_adds size q clock list s from m n) (keeps_open q clock)))
    keeps_base).most

moved_server : (ms : List (Move Entry)) (g : Group Entry) (q : Place) (s : Server Entry) → g.server q ≡ s → (moved_by g q s ms).server q ≡ acts q (g.clock q) s ms
moved_server [] g q s e = e
moved_server (m ∷ ms) g q s e = moved_server ms (moved g q s m) q (act q (g.clock q) s m) (at_self g.server q _)

step_records : (size : List Entry → Entry → ℕ) (g : Group Entry) (q : Place) (i : Input) (P : ℕ → Type 0)
    → P (length (acts q (g.clock q) (g.server q) (step_of size g q i)).items) → P (log_length g q) → P (log_length (steps size g q i) q)
step_records size g q i P h k = by_if (λ (x : Group Entry). P (log_length x q)) (g.server q).up _ g
    (λ _. subst (λ (s : Server Entry). P (length s.items)) (sym (moved_server (step_of size g q i) g q (g.server q) refl)) h)
    (λ _. k)

same_deed : (d : Deed) (n : ℕ) → DeedGrows d n n
same_deed Tick n = le_refl n
same_deed Suspect n = le_refl n
same_deed (Ask client number cred c) n = omega arith
same_deed (Apply k) n = le_refl n
same_deed Flush n = le_refl n
same_deed ListTree n = le_refl n
same_deed Power n = le_refl n
same_deed Crash n = le_refl n

pub deeds_grow : (size : List Entry → Entry → ℕ) (g : Group Entry) (q : Place) (d : Deed) → DeedGrows d (log_length g q) (log_length (happens size g (At q d)) q)
deeds_grow size g q d = step_records size g q (Does d) (λ n. DeedGrows d (log_length g q) n) (deed_adds q (g.clock q) (list_of g q) (g.server q) d) (same_deed d (log_length g q))

by_message : (m : Message Entry) (old new : ℕ) → ((Given m → ⊥) → new ≤ old + most_of m) → DeliveryGrows m old new
by_message (Invite v) old new h = let a = h (λ x. x) in omega arith
by_message (Join v t) old new h = let a = h (λ x. x) in omega arith
by_message (Form v plan) old new h = let a = h (λ x. x) in omega arith
by_message (Fetch v index) old new h = let a = h (λ x. x) in omega arith
by_message (Give v index items) old new h = tt
by_message (Formed v lb) old new h = let a = h (λ x. x) in omega arith
by_message (Event v index cp base e) old new h = h (λ x. x)
by_message (Beat v cp base) old new h = let a = h (λ x. x) in omega arith
by_message (Ack v t lb until) old new h = let a = h (λ x. x) in omega arith
by_message (Demote v) old new h = let a = h (λ x. x) in omega arith

pub deliveries_grow : (size : List Entry → Entry → ℕ) (g : Group Entry) (n : ℕ) (p : Packet Entry) → numbered g.packets n ≡ Some p
    → DeliveryGrows p.body (log_length g p.to) (log_length (happens size g (Deliver n)) p.to)
deliveries_grow size g n p e = subst (λ (o : Option (Packet Entry)). DeliveryGrows p.body (log_length g p.to) (log_length (delivered size g o) p.to)) (sym e)
    (step_records size g p.to (Comes p.from p.body) (λ n. DeliveryGrows p.body (log_length g p.to) n)
    (by_message p.body _ _ (λ x. delivery_adds size p.to (g.clock p.to) (list_of g p.to) (g.server p.to) p.from p.body x))
    (by_message p.body _ _ (λ x. omega arith)))
