-- Steps that make no call to the disk, which no stop cuts.
use Rattle.std.proofs.Common.{◌≡◌, ℕ, ◌+◌, ◌||◌, ◌==◌, Bool, List, [], ◌∷◌, ◌++◌, Option, Some, None, length, append_assoc, append-nil, refl, sym, ap, ◌∙◌, nat_lt, nat_le, if◌then◌else◌}
use Rattle.std.specs.Prelude.{⊤}
use Rattle.std.specs.List.{AllByRecursion}
use Rattle.harp_types.specs.declared.call.Call.{Call}
use Rattle.harp_types.specs.declared.cred.Cred.{Cred}
use Rattle.harp_types.specs.Update.{is_update}
use Rattle.file_tree.specs.Book.{Entry, last_of}
use Rattle.group_rules.specs.Ask.{append, new_entry, on_ask, update_moves}
use Rattle.group_rules.specs.Disk.{settled_tests}
use Rattle.group_rules.specs.Effects.{taken}
use Rattle.group_rules.specs.Limits.{is_active, is_open, limit, room}
use Rattle.group_rules.specs.Misfits.{misfits}
use Rattle.group_rules.specs.Moves.{Appending, Choosing, Collecting, Committing, Hearing, Heeding, Move, Noting, Opening, Pulling, Reading, Saying, Sending, Staging, act, acts}
use Rattle.group_rules.specs.Open.{base_tests, formed_tests, rebase, try_open}
use Rattle.group_rules.specs.Places.{Place, all_of, leader, partner, same}
use Rattle.group_rules.specs.Replicate.{ack_tests, answers, is_in_view, on_event}
use Rattle.group_rules.specs.Serving.{held_tests, serving_accepted, serving_joined}
use Rattle.group_rules.specs.State.{Ack, Beat, Event, Fetch, Formed, Message, Server, top}
use Rattle.group_rules.specs.Step.{Ask, Comes, Does, Input, ListTree, Tick, list_of, on_message, rule, step as step_moves}
use Rattle.group_rules.specs.Tick.{tick}
use Rattle.group_rules.proofs.Tests.{by_if}
use Rattle.group_trace.specs.Calls.{calls_in, calls_of}
use Rattle.group_trace.specs.Scene.{Measures}
use Rattle.trace_laws.specs.Stops.{MakesNoCall, NeverCut}
use Rattle.trace_laws.proofs.MoveKinds.{AreEnd, IsEnd, each-append}
use Rattle.trace_laws.proofs.StepKinds.{end_open, tick_end}

-- a move that makes no call to the disk
abbrev pub IsFree : Move Entry → Type 0
IsFree (Collecting reports) = ⊤
IsFree (Choosing plan from) = ⊤
IsFree (Pulling plan from) = ⊤
IsFree (Staging items) = ⊤
IsFree (Noting t lb until) = ⊤
IsFree (Committing n) = ⊤
IsFree (Saying say) = ⊤
IsFree (Sending to m) = ⊤
IsFree (Opening lb) = ⊤
IsFree (Appending e) = ⊤
IsFree (Reading n e) = ⊤
IsFree (Heeding items cp base) = ⊤
IsFree (Hearing x lb) = ⊤
IsFree m = ⊥

abbrev pub AreFree : List (Move Entry) → Type 0
AreFree ms = AllByRecursion IsFree ms

free_move : (m : Measures) (list : List Entry) (s : Server Entry) (move : Move Entry) → IsFree move
    → calls_in m list s move ≡ []
free_move m list s (Collecting reports) f = refl
free_move m list s (Choosing plan from) f = refl
free_move m list s (Pulling plan from) f = refl
free_move m list s (Staging items) f = refl
free_move m list s (Noting t lb until) f = refl
free_move m list s (Committing n) f = refl
free_move m list s (Saying say) f = refl
free_move m list s (Sending to x) f = refl
free_move m list s (Opening lb) f = refl
free_move m list s (Appending e) f = refl
free_move m list s (Reading n e) f = refl
free_move m list s (Heeding items cp base) f = refl
free_move m list s (Hearing x lb) f = refl
free_move m list s move f = absurd f

pub free_calls : (m : Measures) (q : Place) (clock : ℕ) (list : List Entry) (s : Server Entry)
    (ms : List (Move Entry)) → AreFree ms → calls_of m q clock list s ms ≡ []
unfolding calls_of
free_calls m q clock list s [] f = refl
free_calls m q clock list s (move ∷ ms) f = rw (
  free_move m list s move f.0,
  free_calls m q clock list (act q clock s move) ms f.1,
) refl

pub ends_free : (ms : List (Move Entry)) → AreEnd ms → AreFree ms
ends_free [] h = tt
ends_free (m ∷ ms) h = (one m h.0, ends_free ms h.1)
  where
    one : (m : Move Entry) → IsEnd m → IsFree m
    one (Sending to x) h = tt
    one (Opening lb) h = tt
    one m h = absurd h

answers_free : (n : ℕ) (es : List Entry) → AreFree (answers n es)
answers_free n [] = tt
answers_free n (e ∷ es) = (tt, answers_free (n + 1) es)

pub free_if : (b : Bool) (x y : List (Move Entry)) → AreFree x → AreFree y
    → AreFree (if b then x else y)
free_if b x y h k = by_if AreFree b x y (λ _. h) (λ _. k)

append_free : (s : Server Entry) (e : Entry) → AreFree (append s e)
append_free s e = free_if (nat_le room (length s.items) || nat_le limit (top s)) _ _ (tt, tt) (
  tt,
  (tt, tt),
)

update_free : (s : Server Entry) (e : Entry) (o : Option Entry) → AreFree (update_moves s e o)
update_free s e None = append_free s e
update_free s e (Some l) = free_if (e.number == l.number) _ _ (free_if (nat_le l.index s.cp) _ []
    (tt, tt) tt) (free_if (nat_lt e.number l.number) _ _ (tt, tt) (append_free s e))

pub ask_free : (q : Place) (clock : ℕ) (list : List Entry) (s : Server Entry) (client number : ℕ)
    (cred : Cred) (c : Call) → AreFree (on_ask q clock list s client number cred c)
ask_free q clock list s client number cred c =
    free_if (nat_lt 4095 client) _ _ (tt, tt)
    (free_if (all_of (is_active s.mode ∷ same q (leader s.plan.storers) ∷ [])) _ _
    (free_if (is_open s.mode) _ _
    (free_if (is_update c) _ _ (update_free s (new_entry clock list client number cred c)
    (last_of client list)) (free_if (nat_le s.grant clock) _ _ (tt, tt) (tt, tt)))
    (tt, tt))
    (tt, tt))

event_free : (q : Place) (clock : ℕ) (s : Server Entry) (from : Place) (v cp base : ℕ)
    (items : List Entry) → AreFree (on_event q clock s from v cp base items)
event_free q clock s from v cp base items =
    free_if (all_of (is_in_view s v ∷ same q (partner s.plan.storers) ∷ [])) _ [] (tt, (tt, tt)) tt

pub message_free : (size : List Entry → Entry → ℕ) (q : Place) (clock : ℕ) (list : List Entry)
    (s : Server Entry) (from : Place) (m : Message Entry) → NeverCut (Comes from m)
    → AreFree (on_message size q clock list s from m)
message_free size q clock list s from (Event v index cp base e) n =
    event_free q clock s from v cp base (taken s index e)
message_free size q clock list s from (Beat v cp base) n =
    event_free q clock s from v cp base s.items
message_free size q clock list s from (Ack v t lb until) n = free_if (all_of (ack_tests s v)) _ []
    (tt, free_if (nat_lt s.cp t) _ [] (tt, answers_free s.cp _) tt) tt
message_free size q clock list s from (Formed v lb) n = free_if (all_of (formed_tests s v)) _ []
    (tt, tt) tt
message_free size q clock list s from (Fetch v index) n = free_if (all_of (serving_joined s v)) _ _
    (free_if (all_of (held_tests s index (top s))) _ [] (tt, tt) tt)
    (free_if (all_of (serving_accepted s v)) _ []
    (free_if (all_of (held_tests s index s.served)) _ [] (tt, tt) tt) tt)
message_free size q clock list s from m n = absurd n

pub rule_free : (size : List Entry → Entry → ℕ) (q : Place) (clock : ℕ) (list : List Entry)
    (s : Server Entry) (i : Input) → NeverCut i → AreFree (rule size q clock list s i)
rule_free size q clock list s (Does Tick) n = ends_free (tick q clock s) (tick_end q clock s)
rule_free size q clock list s (Does (Ask client number cred c)) n =
    ask_free q clock list s client number cred c
rule_free size q clock list s (Does ListTree) n = free_if (all_of (settled_tests q s)) _ [] (
  tt,
  tt,
) tt
rule_free size q clock list s (Does d) n = absurd n
rule_free size q clock list s (Comes from m) n =
    let ms = on_message size q clock list s from m in
    free_if (misfits q s from m) [] _ tt
    (each-append IsFree ms (try_open q clock (acts q clock s ms))
    (message_free size q clock list s from m n)
    (ends_free _ (end_open q clock (acts q clock s ms))))

-- ---- the calls of a step

pub calls_append : (m : Measures) (q : Place) (clock : ℕ) (list : List Entry) (s : Server Entry)
    (a b : List (Move Entry)) → calls_of m q clock list s (a ++ b)
    ≡ calls_of m q clock list s a ++ calls_of m q clock list (acts q clock s a) b
unfolding calls_of
calls_append m q clock list s [] b = refl
calls_append m q clock list s (x ∷ a) b =
    ap (λ cs. calls_in m list s x ++ cs) (calls_append m q clock list (act q clock s x) a b)
    ∙ sym (append_assoc (calls_in m list s x) _ _)

base_calls : (m : Measures) (q : Place) (clock : ℕ) (list : List Entry) (s : Server Entry)
    → calls_of m q clock list s (rebase s) ≡ []
unfolding calls_of
base_calls m q clock list s = by_if (λ ms. calls_of m q clock list s ms ≡ [])
    (all_of (base_tests s)) _ [] (λ _. refl) (λ _. refl)

-- the calls of a step are those of its rule
pub step_calls : (m : Measures) (q : Place) (clock : ℕ) (list : List Entry) (s : Server Entry)
    (i : Input) → calls_of m q clock list s (step_moves m.size q clock list s i)
    ≡ calls_of m q clock list s (rule m.size q clock list s i)
step_calls m q clock list s i =
    let ms = rule m.size q clock list s i in
    calls_append m q clock list s ms (rebase (acts q clock s ms))
    ∙ ap (λ cs. calls_of m q clock list s ms ++ cs)
    (base_calls m q clock list (acts q clock s ms))
    ∙ append-nil (calls_of m q clock list s ms)

pub makes_no_call : MakesNoCall
makes_no_call m g q i n =
    let list = list_of g q in
    step_calls m q (g.clock q) list (g.server q) i
    ∙ free_calls m q (g.clock q) list (g.server q) (rule m.size q (g.clock q) list (g.server q) i)
    (rule_free m.size q (g.clock q) list (g.server q) i n)
