-- The list of a server that sends records begins as the list of their view.
use Rattle.std.proofs.Common.{◌≡◌, ◌⊎◌, ℕ, suc, ◌+◌, ◌-◌, ◌<◌, ◌≤◌, ◌||◌, ◌==◌, Bool, List, [], ◌∷◌, ◌++◌, length, take, drop, min, nat_lt, nat_le, Option, None, Some, refl, ◌∙◌, subst, inl, inr, arith, le_refl, le_trans, length-append, ⊎_elim, if◌then◌else◌}
use Rattle.std.specs.Prelude.{⊤}
use Rattle.std.proofs.lemmas.List.{length-drop, length-take}
use Rattle.file_tree.specs.Book.{Entry, last_of}
use Rattle.group_rules.proofs.Tests.{by_if, each_of, is_le, is_lt}
use Rattle.group_rules.specs.Ask.{append, new_entry, on_ask, update_moves}
use Rattle.group_rules.specs.Limits.{is_active, is_open, limit, room}
use Rattle.group_rules.specs.Misfits.{misfits}
use Rattle.group_rules.specs.Moves.{Appending, Basing, Move, Opening, Reading, Saying, Sending, act, acts}
use Rattle.group_rules.specs.Open.{base_tests, rebase, try_open}
use Rattle.group_rules.specs.Places.{Place, Zero, all_of, leader, partner, same}
use Rattle.group_rules.specs.Serving.{gives, held_tests, serving_accepted, serving_joined}
use Rattle.group_rules.specs.State.{Event, Fetch, Give, Log, Message, Server, top}
use Rattle.group_rules.specs.Step.{Ask, Comes, Deed, Does, Input as Begins, Tick, does, on_message, rule, step}
use Rattle.group_rules.specs.Tick.{again, beats, duties, events, tick, unacknowledged}
use Rattle.group_safety.proofs.Quiet.{log_is}
use Rattle.group_safety.specs.Words.{In}
use Rattle.harp_types.specs.Limits.{last_client}
use Rattle.harp_types.specs.Update.{is_update}
use Rattle.harp_types.specs.declared.call.Call.{Call}
use Rattle.harp_types.specs.declared.cred.Cred.{Cred}
use Rattle.world_laws.proofs.Told.{Quiet, QuietAll, quiet_base, quiet_both, quiet_deed, quiet_last, quiet_message, quiet_open}
use Rattle.trace_laws.proofs.MoveKinds.{AreEnd, IsEnd}
use Rattle.trace_laws.proofs.StepKinds.{end_open, tick_end}

-- ---- moves that keep the view and all records up to top

abbrev pub IsSteady : Server Entry → Move Entry → Type 0
IsSteady s (Sending to m) = ⊤
IsSteady s (Saying say) = ⊤
IsSteady s (Reading n e) = ⊤
IsSteady s (Appending e) = ⊤
IsSteady s (Opening lb) = ⊤
IsSteady s (Basing n) = s.base ≤ n
IsSteady s m = ⊥

abbrev pub AreSteady : Place → ℕ → Server Entry → List (Move Entry) → Type 0
AreSteady q clock s [] = ⊤
AreSteady q clock s (m ∷ ms) = IsSteady s m × AreSteady q clock (act q clock s m) ms

-- the view and the records stay
pub record Stays (s s' : Server Entry) : Type 0 where
  pub view : s'.accepted ≡ s.accepted
  pub top : top s ≤ top s'

one_stays : (q : Place) (clock : ℕ) (s : Server Entry) (m : Move Entry) → IsSteady s m
    → Stays s (act q clock s m)
one_stays q clock s (Sending to m) h = record { view = refl; top = le_refl (top s) }
one_stays q clock s (Saying say) h = record { view = refl; top = le_refl (top s) }
one_stays q clock s (Reading n e) h = record { view = refl; top = le_refl (top s) }
one_stays q clock s (Appending e) h = record {
  view = refl;
  top = omega (arith, length-append s.items (e ∷ []));
}
one_stays q clock s (Opening lb) h = record { view = refl; top = le_refl (top s) }
one_stays q clock s (Basing n) h = record {
  view = refl;
  top = omega (arith, h, length-drop (n - s.base) s.items);
}
one_stays q clock s m h = absurd h

pub all_stay : (ms : List (Move Entry)) (q : Place) (clock : ℕ) (s : Server Entry)
    → AreSteady q clock s ms → Stays s (acts q clock s ms)
all_stay [] q clock s h = record { view = refl; top = le_refl (top s) }
all_stay (m ∷ ms) q clock s h =
    let first = one_stays q clock s m h.0 in
    let rest = all_stay ms q clock (act q clock s m) h.1 in
    record { view = rest.view ∙ first.view; top = le_trans first.top rest.top }

steady_both : (a b : List (Move Entry)) (q : Place) (clock : ℕ) (s : Server Entry)
    → AreSteady q clock s a → AreSteady q clock (acts q clock s a) b
    → AreSteady q clock s (a ++ b)
steady_both [] b q clock s h k = k
steady_both (m ∷ a) b q clock s h k = (h.0, steady_both a b q clock (act q clock s m) h.1 k)

steady_if : (q : Place) (clock : ℕ) (s : Server Entry) (b : Bool) (x y : List (Move Entry))
    → AreSteady q clock s x → AreSteady q clock s y → AreSteady q clock s (if b then x else y)
steady_if q clock s b x y h k = by_if (AreSteady q clock s) b x y (λ _. h) (λ _. k)

ends_steady : (ms : List (Move Entry)) (q : Place) (clock : ℕ) (s : Server Entry) → AreEnd ms
    → AreSteady q clock s ms
ends_steady [] q clock s h = tt
ends_steady (m ∷ ms) q clock s h = (one m h.0, ends_steady ms q clock (act q clock s m) h.1)
  where
    one : (m : Move Entry) → IsEnd m → IsSteady s m
    one (Sending to x) h = tt
    one (Opening lb) h = tt
    one m h = absurd h

base_steady : (q : Place) (clock : ℕ) (s : Server Entry) → AreSteady q clock s (rebase s)
base_steady q clock s = by_if (AreSteady q clock s) (all_of (base_tests s)) _ []
    (λ t.
    let above = is_lt s.base (min s.lb s.told_lb) (each_of (base_tests s) t).1.1.0 in
    let low : s.base ≤ min s.lb s.told_lb = omega arith in (low, tt))
    (λ _. tt)

-- ---- what is sent begins within top

abbrev pub ReachesOf : Server Entry → Message Entry → Type 0
ReachesOf s (Give v index items) = index ≤ top s + 1
ReachesOf s (Event v index cp base e) = index ≤ top s + 1
ReachesOf s m = ⊤

abbrev pub Reaches : Server Entry → Move Entry → Type 0
Reaches s (Sending to m) = ReachesOf s m
Reaches s m = ⊤

abbrev pub AllReach : Server Entry → List (Move Entry) → Type 0
AllReach s [] = ⊤
AllReach s (m ∷ ms) = Reaches s m × AllReach s ms

reach_both : (a b : List (Move Entry)) (s : Server Entry) → AllReach s a → AllReach s b
    → AllReach s (a ++ b)
reach_both [] b s h k = k
reach_both (m ∷ a) b s h k = (h.0, reach_both a b s h.1 k)

reach_if : (s : Server Entry) (b : Bool) (x y : List (Move Entry)) → AllReach s x → AllReach s y
    → AllReach s (if b then x else y)
reach_if s b x y h k = by_if (AllReach s) b x y (λ _. h) (λ _. k)

quiet_reach : (ms : List (Move Entry)) (s : Server Entry) → QuietAll ms → AllReach s ms
quiet_reach [] s h = tt
quiet_reach (m ∷ ms) s h = (one m h.0, quiet_reach ms s h.1)
  where
    body : (x : Message Entry) → Quiet (Sending Zero x) → ReachesOf s x
    body (Give v index items) h = absurd h
    body (Event v index cp base e) h = absurd h
    body x h = tt

    one : (m : Move Entry) → Quiet m → Reaches s m
    one (Sending to x) h = body x h
    one m h = tt

events_reach : (s : Server Entry) (to : Place) (v cp base n : ℕ) (es : List Entry)
    → (0 < length es → n + length es ≤ top s) → AllReach s (events to v cp base n es)
events_reach s to v cp base n [] le = tt
events_reach s to v cp base n (e ∷ es) le =
    let some : 0 < suc (length es) = omega arith in
    let all : n + suc (length es) ≤ top s = le some in
    let here : n + 1 ≤ top s + 1 = omega (arith, all) in
    let rest : n + 1 + length es ≤ top s = omega (arith, all) in
    (here, events_reach s to v cp base (n + 1) es (λ _. rest))

-- ---- steps that send records

-- moves that send no records, or such that keep their server's view and begin within its top
abbrev pub Sends : Place → ℕ → Server Entry → List (Move Entry) → Type 0
Sends q clock s ms = QuietAll ms ⊎ (AreSteady q clock s ms × AllReach s ms)

-- the base behind them
then_base : (q : Place) (clock : ℕ) (s : Server Entry) (ms : List (Move Entry))
    → Sends q clock s ms → Sends q clock s (ms ++ rebase (acts q clock s ms))
then_base q clock s ms h =
    let last = acts q clock s ms in
    ⊎_elim
    (λ (n : QuietAll ms). inl (quiet_both ms (rebase last) n (quiet_base last)))
    (λ (y : AreSteady q clock s ms × AllReach s ms). inr (
      steady_both ms (rebase last) q clock s y.0 (base_steady q clock last),
      reach_both ms (rebase last) s y.1 (quiet_reach (rebase last) s (quiet_base last)),
    )) h

-- the test of opening behind them
then_open : (q : Place) (clock : ℕ) (s : Server Entry) (ms : List (Move Entry))
    → Sends q clock s ms → Sends q clock s (ms ++ try_open q clock (acts q clock s ms))
then_open q clock s ms h =
    let last = acts q clock s ms in
    ⊎_elim
    (λ (n : QuietAll ms). inl (quiet_both ms (try_open q clock last) n (quiet_open q clock last)))
    (λ (y : AreSteady q clock s ms × AllReach s ms). inr (
      steady_both ms (try_open q clock last) q clock s y.0
          (ends_steady (try_open q clock last) q clock last (end_open q clock last)),
      reach_both ms (try_open q clock last) s y.1
          (quiet_reach (try_open q clock last) s (quiet_open q clock last)),
    )) h

beats_reach : (s : Server Entry) → AllReach s (beats s)
beats_reach s =
    let start = unacknowledged s in
    let es = drop (start - s.base) s.items in (
      tt,
      events_reach s (partner s.plan.storers) s.accepted s.cp s.base start (take 64 es)
          (λ some. omega (
            arith,
            some,
            length-take 64 es,
            length-drop (start - s.base) s.items,
          )),
    )

tick_sends : (q : Place) (clock : ℕ) (s : Server Entry) → Sends q clock s (tick q clock s)
tick_sends q clock s =
    let first = if is_open s.mode then beats s else try_open q clock s in
    let last = acts q clock s first in
    inr (
      ends_steady (tick q clock s) q clock s (tick_end q clock s),
      reach_both first (duties q last last.duty ++ again q last) s
          (reach_if s (is_open s.mode) (beats s) (try_open q clock s) (beats_reach s)
          (quiet_reach (try_open q clock s) s (quiet_open q clock s)))
          (quiet_reach (duties q last last.duty ++ again q last) s (quiet_last q last)),
    )

-- ---- asks

append_steady : (q : Place) (clock : ℕ) (s : Server Entry) (e : Entry)
    → AreSteady q clock s (append s e)
append_steady q clock s e =
    steady_if q clock s (nat_le room (length s.items) || nat_le limit (top s)) _ _ (tt, tt)
    (tt, (tt, tt))

update_steady : (q : Place) (clock : ℕ) (s : Server Entry) (e : Entry) (last : Option Entry)
    → AreSteady q clock s (update_moves s e last)
update_steady q clock s e None = append_steady q clock s e
update_steady q clock s e (Some last) = steady_if q clock s (e.number == last.number) _ _
    (steady_if q clock s (nat_le last.index s.cp) _ [] (tt, tt) tt)
    (steady_if q clock s (nat_lt e.number last.number) _ _ (tt, tt) (append_steady q clock s e))

ask_steady : (q : Place) (clock : ℕ) (list : List Entry) (s : Server Entry) (client number : ℕ)
    (cred : Cred) (c : Call)
    → AreSteady q clock s (on_ask q clock list s client number cred c)
ask_steady q clock list s client number cred c =
    steady_if q clock s (nat_lt last_client client) _ _ (tt, tt)
    (steady_if q clock s (all_of (is_active s.mode ∷ same q (leader s.plan.storers) ∷ [])) _ _
    (steady_if q clock s (is_open s.mode) _ _
    (steady_if q clock s (is_update c) _ _
    (update_steady q clock s (new_entry clock list client number cred c) (last_of client list))
    (steady_if q clock s (nat_le s.grant clock) _ _ (tt, tt) (tt, tt)))
    (tt, tt))
    (tt, tt))

append_reach : (s : Server Entry) (e : Entry) → AllReach s (append s e)
append_reach s e =
    reach_if s (nat_le room (length s.items) || nat_le limit (top s)) _ _ (tt, tt)
    (tt, (le_refl (top s + 1), tt))

update_reach : (s : Server Entry) (e : Entry) (last : Option Entry)
    → AllReach s (update_moves s e last)
update_reach s e None = append_reach s e
update_reach s e (Some last) = reach_if s (e.number == last.number) _ _
    (reach_if s (nat_le last.index s.cp) _ [] (tt, tt) tt)
    (reach_if s (nat_lt e.number last.number) _ _ (tt, tt) (append_reach s e))

ask_reach : (q : Place) (clock : ℕ) (list : List Entry) (s : Server Entry) (client number : ℕ)
    (cred : Cred) (c : Call) → AllReach s (on_ask q clock list s client number cred c)
ask_reach q clock list s client number cred c =
    reach_if s (nat_lt last_client client) _ _ (tt, tt)
    (reach_if s (all_of (is_active s.mode ∷ same q (leader s.plan.storers) ∷ [])) _ _
    (reach_if s (is_open s.mode) _ _
    (reach_if s (is_update c) _ _
    (update_reach s (new_entry clock list client number cred c) (last_of client list))
    (reach_if s (nat_le s.grant clock) _ _ (tt, tt) (tt, tt)))
    (tt, tt))
    (tt, tt))

deed_sends : (q : Place) (clock : ℕ) (list : List Entry) (s : Server Entry) (d : Deed)
    → Sends q clock s (does q clock list s d)
deed_sends q clock list s Tick = tick_sends q clock s
deed_sends q clock list s (Ask client number cred c) = inr (
  ask_steady q clock list s client number cred c,
  ask_reach q clock list s client number cred c,
)
deed_sends q clock list s d = inl (quiet_deed q clock s list d tt)

-- ---- fetches

gives_steady : (q : Place) (clock : ℕ) (size : List Entry → Entry → ℕ) (list : List Entry)
    (s : Server Entry) (to : Place) (v index last : ℕ)
    → AreSteady q clock s (gives size list s to v index last)
gives_steady q clock size list s to v index last =
    steady_if q clock s (all_of (held_tests s index last)) _ [] (tt, tt) tt

gives_reach : (size : List Entry → Entry → ℕ) (list : List Entry) (s : Server Entry) (to : Place)
    (v index last : ℕ) → last ≤ top s → AllReach s (gives size list s to v index last)
gives_reach size list s to v index last le =
    by_if (AllReach s) (all_of (held_tests s index last)) _ []
    (λ t.
    let low = is_le index last (each_of (held_tests s index last) t).1.0 in
    let here : index ≤ top s + 1 = omega arith in (here, tt))
    (λ _. tt)

-- a server serves no more than it has
fetch_sends : (size : List Entry → Entry → ℕ) (q : Place) (clock : ℕ) (list : List Entry)
    (s : Server Entry) (from : Place) (v index : ℕ) → (s.held ≡ Log → s.served ≤ top s)
    → Sends q clock s (on_message size q clock list s from (Fetch v index))
fetch_sends size q clock list s from v index few = inr (
  steady_if q clock s (all_of (serving_joined s v)) _ _
      (gives_steady q clock size list s from v index (top s))
      (steady_if q clock s (all_of (serving_accepted s v)) _ []
      (gives_steady q clock size list s from v index s.served) tt),
  reach_if s (all_of (serving_joined s v)) _ _
      (gives_reach size list s from v index (top s) (le_refl (top s)))
      (by_if (AllReach s) (all_of (serving_accepted s v)) _ []
      (λ t. gives_reach size list s from v index s.served
      (few (log_is s.held (each_of (serving_accepted s v) t).1.0))) (λ _. tt)),
)

message_sends : (size : List Entry → Entry → ℕ) (q : Place) (clock : ℕ) (list : List Entry)
    (s : Server Entry) (from : Place) (m : Message Entry) → (s.held ≡ Log → s.served ≤ top s)
    → Sends q clock s (on_message size q clock list s from m)
message_sends size q clock list s from (Fetch v index) few =
    fetch_sends size q clock list s from v index few
message_sends size q clock list s from m few =
    inl (quiet_message size q clock list s from m tt)

rule_sends : (size : List Entry → Entry → ℕ) (q : Place) (clock : ℕ) (list : List Entry)
    (s : Server Entry) (i : Begins) → (s.held ≡ Log → s.served ≤ top s)
    → Sends q clock s (rule size q clock list s i)
rule_sends size q clock list s (Does d) few = deed_sends q clock list s d
rule_sends size q clock list s (Comes from m) few =
    by_if (Sends q clock s) (misfits q s from m) [] _ (λ _. inl tt)
    (λ _. then_open q clock s (on_message size q clock list s from m)
    (message_sends size q clock list s from m few))

pub step_sends : (size : List Entry → Entry → ℕ) (q : Place) (clock : ℕ) (list : List Entry)
    (s : Server Entry) (i : Begins) → (s.held ≡ Log → s.served ≤ top s)
    → Sends q clock s (step size q clock list s i)
step_sends size q clock list s i few =
    then_base q clock s (rule size q clock list s i) (rule_sends size q clock list s i few)

-- ---- one of the moves

pub in_quiet : (ms : List (Move Entry)) (m : Move Entry) → QuietAll ms → In ms m → Quiet m
in_quiet [] m h i = absurd i
in_quiet (x ∷ ms) m h i = ⊎_elim (λ (e : x ≡ m). subst Quiet e h.0)
    (λ j. in_quiet ms m h.1 j) i

pub in_reach : (ms : List (Move Entry)) (s : Server Entry) (m : Move Entry) → AllReach s ms
    → In ms m → Reaches s m
in_reach [] s m h i = absurd i
in_reach (x ∷ ms) s m h i = ⊎_elim (λ (e : x ≡ m). subst (Reaches s) e h.0)
    (λ j. in_reach ms s m h.1 j) i
