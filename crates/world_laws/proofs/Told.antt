-- What the moves of a step send and append.
use Rattle.std.proofs.Common.{◌≡◌, ◌⊎◌, ℕ, ◌+◌, ◌-◌, ◌/◌, ◌||◌, ◌==◌, Bool, true, false, List, [], ◌∷◌, ◌++◌, length, take, drop, Option, None, Some, nat_lt, nat_le, refl, sym, subst, inl, inr, if◌then◌else◌}
use Rattle.std.specs.Prelude.{⊤}
use Rattle.file_tree.specs.Book.{Entry, last_of}
use Rattle.group_rules.proofs.Tests.{by_if, each_of, is_eq'}
use Rattle.group_rules.specs.Ask.{append, new_entry, on_ask, update_moves}
use Rattle.group_rules.specs.Choose.{choose}
use Rattle.group_rules.specs.Disk.{demote_tests, flush_tests, settled_tests}
use Rattle.group_rules.specs.Effects.{taken}
use Rattle.group_rules.specs.Form.{accept_moves, fits, form_moves, on_give, pull_tests, wanted}
use Rattle.group_rules.specs.Joining.{chosen_moves, joined_tests, on_join, to_each}
use Rattle.group_rules.specs.Limits.{is_active, is_joins, is_open, is_pulls, limit, room}
use Rattle.group_rules.specs.Misfits.{misfits}
use Rattle.group_rules.specs.Moves.{Appending, Move, Sending, acts}
use Rattle.group_rules.specs.Open.{base_tests, formed_tests, open_heard, open_tests, rebase, try_open}
use Rattle.group_rules.specs.Places.{Zero, One, Two, Place, Trio, all_of, get, is_s01, leader, other_storers, partner, same, with_at}
use Rattle.group_rules.specs.Replicate.{ack_tests, answers, is_in_view, on_event}
use Rattle.group_rules.specs.Serving.{held_tests, serving_accepted, serving_joined}
use Rattle.group_rules.specs.State.{Ack, Beat, Chose, Collects, Demote, Duty, Event, Fetch, Form, Formed, Give, Group, Invite, Join, Log, Message, NoDuty, Open, Plan, Report, Server, top}
use Rattle.group_rules.specs.Step.{Apply, Ask, Comes, Crash, Deed, Does, Flush, ListTree, Power, Suspect, Tick, does, on_message, rule, step}
use Rattle.group_rules.specs.Tick.{again, again_tests, beats, duties, duty_tests, events, invite_again, unacknowledged}
use Rattle.group_safety.proofs.Modes.{joining_is, open_is}
use Rattle.group_safety.proofs.Quiet.{log_is}
use Rattle.group_safety.specs.Facts.{BodyOk}
use Rattle.group_safety.specs.Words.{IsJoining}
use Rattle.harp_types.specs.Update.{is_update}
use Rattle.harp_types.specs.declared.call.Call.{Call}
use Rattle.harp_types.specs.declared.cred.Cred.{Cred}

-- a source that joined the view gives of its own log
pub record IsSource (g : Group Entry) (q : Place) (s : Server Entry) (v : ℕ) : Type 0 where
  pub view : v ≡ s.promised
  pub joins : IsJoining s.mode
  pub held : s.held ≡ Log
  pub formed : (g.page s.promised).formed ≡ true
  pub source : (g.page s.promised).plan.source ≡ q

-- of which view's list a message has records: of the accepted one, or of one that the server is
-- source of

abbrev pub TellsOf : Group Entry → Place → Server Entry → Message Entry → Type 0
TellsOf g q s (Give v index items) = (v ≡ s.accepted) ⊎ IsSource g q s v
TellsOf g q s (Event v index cp base e) = v ≡ s.accepted
TellsOf g q s m = ⊤

abbrev pub Tells : Group Entry → Place → Server Entry → List Entry → Move Entry → Type 0
Tells g q s list (Sending to m) = TellsOf g q s m
Tells g q s list (Appending e) = (e.index ≡ length list + 1) × (s.mode ≡ Open)
Tells g q s list m = ⊤

abbrev pub TellsAll : Group Entry → Place → Server Entry → List Entry → List (Move Entry) → Type 0
TellsAll g q s list [] = ⊤
TellsAll g q s list (m ∷ ms) = Tells g q s list m × TellsAll g q s list ms

-- ---- moves that neither send records nor append

abbrev pub QuietOf : Message Entry → Type 0
QuietOf (Give v index items) = ⊥
QuietOf (Event v index cp base e) = ⊥
QuietOf m = ⊤

abbrev pub Quiet : Move Entry → Type 0
Quiet (Sending to m) = QuietOf m
Quiet (Appending e) = ⊥
Quiet m = ⊤

abbrev pub QuietAll : List (Move Entry) → Type 0
QuietAll [] = ⊤
QuietAll (m ∷ ms) = Quiet m × QuietAll ms

quiet_of : (g : Group Entry) (q : Place) (s : Server Entry) (m : Message Entry) → QuietOf m
    → TellsOf g q s m
quiet_of g q s (Give v index items) h = absurd h
quiet_of g q s (Event v index cp base e) h = absurd h
quiet_of g q s m h = tt

quiet_tells : (g : Group Entry) (q : Place) (s : Server Entry) (list : List Entry) (m : Move Entry)
    → Quiet m → Tells g q s list m
quiet_tells g q s list (Sending to m) h = quiet_of g q s m h
quiet_tells g q s list (Appending e) h = absurd h
quiet_tells g q s list m h = tt

quiet_all : (ms : List (Move Entry)) (g : Group Entry) (q : Place) (s : Server Entry)
    (list : List Entry) → QuietAll ms → TellsAll g q s list ms
quiet_all [] g q s list h = tt
quiet_all (m ∷ ms) g q s list h =
    (quiet_tells g q s list m h.0, quiet_all ms g q s list h.1)

tells_both : (a b : List (Move Entry)) (g : Group Entry) (q : Place) (s : Server Entry)
    (list : List Entry) → TellsAll g q s list a → TellsAll g q s list b
    → TellsAll g q s list (a ++ b)
tells_both [] b g q s list h k = k
tells_both (m ∷ a) b g q s list h k = (h.0, tells_both a b g q s list h.1 k)

tells_if : (g : Group Entry) (q : Place) (s : Server Entry) (list : List Entry) (b : Bool)
    (x y : List (Move Entry)) → (b ≡ true → TellsAll g q s list x)
    → (b ≡ false → TellsAll g q s list y) → TellsAll g q s list (if b then x else y)
tells_if g q s list b x y = by_if (λ ms. TellsAll g q s list ms) b x y

quiet_if : (b : Bool) (x y : List (Move Entry)) → QuietAll x → QuietAll y
    → QuietAll (if b then x else y)
quiet_if b x y h k = by_if (λ ms. QuietAll ms) b x y (λ _. h) (λ _. k)

pub quiet_both : (a b : List (Move Entry)) → QuietAll a → QuietAll b → QuietAll (a ++ b)
quiet_both [] b h k = k
quiet_both (m ∷ a) b h k = (h.0, quiet_both a b h.1 k)

quiet_each : (m : Message Entry) → QuietOf m → (ps : List Place) → QuietAll (to_each m ps)
quiet_each m h [] = tt
quiet_each m h (p ∷ ps) = (h, quiet_each m h ps)

quiet_answers : (n : ℕ) (es : List Entry) → QuietAll (answers n es)
quiet_answers n [] = tt
quiet_answers n (e ∷ es) = (tt, quiet_answers (n + 1) es)

pub quiet_open : (q : Place) (clock : ℕ) (s : Server Entry) → QuietAll (try_open q clock s)
quiet_open q clock s = quiet_if (all_of (open_tests q s)) _ []
    (heard (get s.heard (partner s.plan.storers))) tt
  where
    heard : (o : Option ℕ) → QuietAll (open_heard clock s o)
    heard None = tt
    heard (Some lb) = quiet_if (nat_le (s.plan.horizon + 50) clock) _ []
        (tt, quiet_both _ _ (quiet_if (is_s01 s.plan.storers) _ [] (tt, tt) tt) (tt, tt)) tt

pub quiet_base : (s : Server Entry) → QuietAll (rebase s)
quiet_base s = quiet_if (all_of (base_tests s)) _ [] (tt, tt) tt

quiet_invite : (v : ℕ) (p : Place) (o : Option Report) → QuietAll (invite_again v p o)
quiet_invite v p None = (tt, tt)
quiet_invite v p (Some t) = tt

quiet_duties : (q : Place) (s : Server Entry) (d : Duty) → QuietAll (duties q s d)
quiet_duties q s NoDuty = tt
quiet_duties q s (Collects reports) = quiet_both _ _ (quiet_invite s.promised Zero (get reports
    Zero))
    (quiet_both _ _ (quiet_invite s.promised One (get reports One))
    (quiet_invite s.promised Two (get reports Two)))
quiet_duties q s (Chose v plan) = quiet_if (all_of (duty_tests q s v plan)) _ []
    (quiet_each (Form v plan) tt (other_storers q plan.storers)) tt

quiet_again : (q : Place) (s : Server Entry) → QuietAll (again q s)
quiet_again q s = quiet_both _ _ (quiet_if (is_pulls s.mode) _ [] (tt, tt) tt)
    (quiet_if (all_of (again_tests q s)) _ [] (tt, tt) tt)

pub quiet_last : (q : Place) (s : Server Entry) → QuietAll (duties q s s.duty ++ again q s)
quiet_last q s = quiet_both _ _ (quiet_duties q s s.duty) (quiet_again q s)

quiet_accept : (q : Place) (s : Server Entry) (plan : Plan) (staged : List Entry)
    → QuietAll (accept_moves q s plan staged)
quiet_accept q s plan staged = (tt, quiet_if (same q (partner plan.storers)) _ [] (tt, tt) tt)

quiet_form : (q : Place) (s : Server Entry) (plan : Plan) → QuietAll (form_moves q s plan)
quiet_form q s plan = quiet_if (all_of (is_joins s.mode ∷ fits q s plan ∷ [])) _ []
    (quiet_if (same q plan.source || (wanted q s plan == plan.start)) _ _ (quiet_accept q s plan [])
    (tt, (tt, tt))) tt

quiet_chosen : (q : Place) (s : Server Entry) (reports : Trio (Option Report)) (o : Option Plan)
    → QuietAll (chosen_moves q s reports o)
quiet_chosen q s reports None = (tt, tt)
quiet_chosen q s reports (Some plan) = (
  tt,
  (
    tt,
    quiet_both _ _ (quiet_each (Form s.promised plan) tt (other_storers q plan.storers))
        (quiet_form q (record s { duty = Chose s.promised plan }) plan),
  ),
)

quiet_join : (q : Place) (s : Server Entry) (from : Place) (v : ℕ) (t : Report) (d : Duty)
    → QuietAll (on_join q s from v t d)
quiet_join q s from v t NoDuty = tt
quiet_join q s from v t (Chose w plan) = tt
quiet_join q s from v t (Collects reports) = quiet_if (v == s.promised) _ []
    (quiet_chosen q s (with_at reports from (Some t)) (choose (with_at reports from (Some t)))) tt

quiet_give : (q : Place) (s : Server Entry) (v index : ℕ) (items : List Entry)
    → QuietAll (on_give q s v index items)
quiet_give q s v index items = quiet_if (all_of (pull_tests s v index items)) _ []
    (quiet_if (s.wanted_from + length (s.staged ++ items) == s.plan.start) _ _
    (quiet_accept q s s.plan (s.staged ++ items)) (tt, (tt, tt))) tt

quiet_event : (q : Place) (clock : ℕ) (s : Server Entry) (from : Place) (v cp base : ℕ)
    (items : List Entry) → QuietAll (on_event q clock s from v cp base items)
quiet_event q clock s from v cp base items =
    quiet_if (all_of (is_in_view s v ∷ same q (partner s.plan.storers) ∷ [])) _ []
    (tt, (tt, tt)) tt

-- a message that asks for no records
abbrev pub IsNoFetch : Message Entry → Type 0
IsNoFetch (Fetch v index) = ⊥
IsNoFetch m = ⊤

pub quiet_message : (size : List Entry → Entry → ℕ) (q : Place) (clock : ℕ) (list : List Entry)
    (s : Server Entry) (from : Place) (m : Message Entry) → IsNoFetch m
    → QuietAll (on_message size q clock list s from m)
quiet_message size q clock list s from (Invite v) n = quiet_if (nat_lt s.promised v) _ _
    (tt, (tt, tt)) (quiet_if (all_of (joined_tests s v)) _ [] (tt, tt) tt)
quiet_message size q clock list s from (Join v t) n = quiet_join q s from v t s.duty
quiet_message size q clock list s from (Form v plan) n =
    quiet_if (v == s.promised) _ [] (quiet_form q s plan) tt
quiet_message size q clock list s from (Fetch v index) n = absurd n
quiet_message size q clock list s from (Give v index items) n = quiet_give q s v index items
quiet_message size q clock list s from (Formed v lb) n =
    quiet_if (all_of (formed_tests s v)) _ [] (tt, tt) tt
quiet_message size q clock list s from (Event v index cp base e) n =
    quiet_event q clock s from v cp base (taken s index e)
quiet_message size q clock list s from (Beat v cp base) n =
    quiet_event q clock s from v cp base s.items
quiet_message size q clock list s from (Ack v t lb until) n =
    quiet_if (all_of (ack_tests s v)) _ []
    (tt, quiet_if (nat_lt s.cp t) _ [] (tt, quiet_answers s.cp _) tt) tt
quiet_message size q clock list s from (Demote v) n =
    quiet_if (all_of (demote_tests q s v)) _ [] (tt, tt) tt

-- a deed that neither sends records nor appends
abbrev pub IsQuietDeed : Deed → Type 0
IsQuietDeed Tick = ⊥
IsQuietDeed (Ask client number cred c) = ⊥
IsQuietDeed d = ⊤

pub quiet_deed : (q : Place) (clock : ℕ) (s : Server Entry) (list : List Entry) (d : Deed)
    → IsQuietDeed d → QuietAll (does q clock list s d)
quiet_deed q clock s list Tick n = absurd n
quiet_deed q clock s list (Ask client number cred c) n = absurd n
quiet_deed q clock s list Suspect n =
    quiet_if (nat_lt (s.promised / 3) limit) _ [] (tt, quiet_each _ tt _) tt
quiet_deed q clock s list (Apply k) n = quiet_if (all_of (settled_tests q s)) _ [] (tt, tt) tt
quiet_deed q clock s list Flush n = quiet_if (all_of (flush_tests q s)) _ [] (tt, tt) tt
quiet_deed q clock s list ListTree n = quiet_if (all_of (settled_tests q s)) _ [] (tt, tt) tt
quiet_deed q clock s list Power n = (tt, tt)
quiet_deed q clock s list Crash n = (tt, tt)

-- ---- moves that do

append_tells : (g : Group Entry) (q : Place) (s : Server Entry) (list : List Entry) (e : Entry)
    → e.index ≡ length list + 1 → s.mode ≡ Open → TellsAll g q s list (append s e)
append_tells g q s list e i o =
    tells_if g q s list (nat_le room (length s.items) || nat_le limit (top s)) _ _
    (λ _. (tt, tt)) (λ _. ((i, o), (refl, tt)))

update_tells : (g : Group Entry) (q : Place) (s : Server Entry) (list : List Entry) (e : Entry)
    (last : Option Entry) → e.index ≡ length list + 1 → s.mode ≡ Open
    → TellsAll g q s list (update_moves s e last)
update_tells g q s list e None i o = append_tells g q s list e i o
update_tells g q s list e (Some last) i o = tells_if g q s list (e.number == last.number) _ _
    (λ _. tells_if g q s list (nat_le last.index s.cp) _ [] (λ _. (tt, tt)) (λ _. tt))
    (λ _. tells_if g q s list (nat_lt e.number last.number) _ _ (λ _. (tt, tt))
    (λ _. append_tells g q s list e i o))

ask_tells : (g : Group Entry) (q : Place) (clock : ℕ) (s : Server Entry) (list : List Entry)
    (client number : ℕ) (cred : Cred) (c : Call)
    → TellsAll g q s list (on_ask q clock list s client number cred c)
ask_tells g q clock s list client number cred c =
    tells_if g q s list (nat_lt 4095 client) _ _ (λ _. (tt, tt))
    (λ _. tells_if g q s list (all_of (is_active s.mode ∷ same q (leader s.plan.storers) ∷ [])) _ _
    (λ _. tells_if g q s list (is_open s.mode) _ _
    (λ o. tells_if g q s list (is_update c) _ _
    (λ _. update_tells g q s list (new_entry clock list client number cred c)
    (last_of client list) refl (open_is s.mode o))
    (λ _. tells_if g q s list (nat_le s.grant clock) _ _ (λ _. (tt, tt)) (λ _. (tt, tt))))
    (λ _. (tt, tt)))
    (λ _. (tt, tt)))

events_tell : (g : Group Entry) (q : Place) (s : Server Entry) (list : List Entry) (to : Place)
    (cp base n : ℕ) (es : List Entry) → TellsAll g q s list (events to s.accepted cp base n es)
events_tell g q s list to cp base n [] = tt
events_tell g q s list to cp base n (e ∷ es) = (refl, events_tell g q s list to cp base (n + 1) es)

tick_tells : (g : Group Entry) (q : Place) (clock : ℕ) (s : Server Entry) (list : List Entry)
    → TellsAll g q s list (does q clock list s Tick)
tick_tells g q clock s list =
    tells_both (if is_open s.mode then beats s else try_open q clock s) _ g q s list
    (tells_if g q s list (is_open s.mode) _ _
    (λ _. (
      tt,
      events_tell g q s list (partner s.plan.storers) s.cp s.base (unacknowledged s)
          (take 64 (drop (unacknowledged s - s.base) s.items)),
    ))
    (λ _. quiet_all _ g q s list (quiet_open q clock s)))
    (quiet_all _ g q s list (quiet_last q
    (acts q clock s (if is_open s.mode then beats s else try_open q clock s))))

fetch_tells : (size : List Entry → Entry → ℕ) (g : Group Entry) (q : Place) (s : Server Entry)
    (list : List Entry) (from : Place) (v index : ℕ) → (g.page v).formed ≡ true
    → q ≡ (g.page v).plan.source
    → TellsAll g q s list (on_message size q (g.clock q) list s from (Fetch v index))
fetch_tells size g q s list from v index f src =
    tells_if g q s list (all_of (serving_joined s v)) _ _
    (λ t.
    let a = each_of (serving_joined s v) t in
    let e : v ≡ s.promised = is_eq' v s.promised a.0 in
    tells_if g q s list (all_of (held_tests s index (top s))) _ []
    (λ _. (
      inr (record {
        view = e;
        joins = joining_is s.mode a.1.0;
        held = log_is s.held a.1.1.0;
        formed = subst (λ n. (g.page n).formed ≡ true) e f;
        source = sym (subst (λ n. q ≡ (g.page n).plan.source) e src);
      }),
      tt,
    ))
    (λ _. tt))
    (λ _. tells_if g q s list (all_of (serving_accepted s v)) _ []
    (λ t. tells_if g q s list (all_of (held_tests s index s.served)) _ []
    (λ _. (inl (is_eq' v s.accepted (each_of (serving_accepted s v) t).0), tt)) (λ _. tt))
    (λ _. tt))

message_tells : (size : List Entry → Entry → ℕ) (g : Group Entry) (q : Place) (s : Server Entry)
    (list : List Entry) (from : Place) (m : Message Entry)
    → BodyOk g.page g.joins g.committed from q m
    → TellsAll g q s list (on_message size q (g.clock q) list s from m)
message_tells size g q s list from (Fetch v index) b =
    fetch_tells size g q s list from v index b.0 b.1
message_tells size g q s list from m b =
    quiet_all (on_message size q (g.clock q) list s from m) g q s list
    (quiet_message size q (g.clock q) list s from m tt)

deed_tells : (g : Group Entry) (q : Place) (s : Server Entry) (list : List Entry) (d : Deed)
    → TellsAll g q s list (does q (g.clock q) list s d)
deed_tells g q s list Tick = tick_tells g q (g.clock q) s list
deed_tells g q s list (Ask client number cred c) =
    ask_tells g q (g.clock q) s list client number cred c
deed_tells g q s list d = quiet_all (does q (g.clock q) list s d) g q s list
    (quiet_deed q (g.clock q) s list d tt)

pub deed_step_tells : (size : List Entry → Entry → ℕ) (g : Group Entry) (q : Place)
    (s : Server Entry) (list : List Entry) (d : Deed)
    → TellsAll g q s list (step size q (g.clock q) list s (Does d))
deed_step_tells size g q s list d = tells_both (does q (g.clock q) list s d) _ g q s list
    (deed_tells g q s list d)
    (quiet_all _ g q s list (quiet_base (acts q (g.clock q) s (does q (g.clock q) list s d))))

pub message_step_tells : (size : List Entry → Entry → ℕ) (g : Group Entry) (q : Place)
    (s : Server Entry) (list : List Entry) (from : Place) (m : Message Entry)
    → BodyOk g.page g.joins g.committed from q m
    → TellsAll g q s list (step size q (g.clock q) list s (Comes from m))
message_step_tells size g q s list from m b =
    tells_both (rule size q (g.clock q) list s (Comes from m)) _ g q s list
    (tells_if g q s list (misfits q s from m) [] _ (λ _. tt)
    (λ _. tells_both (on_message size q (g.clock q) list s from m) _ g q s list
    (message_tells size g q s list from m b)
    (quiet_all _ g q s list (quiet_open q (g.clock q)
    (acts q (g.clock q) s (on_message size q (g.clock q) list s from m))))))
    (quiet_all _ g q s list (quiet_base
    (acts q (g.clock q) s (rule size q (g.clock q) list s (Comes from m)))))
