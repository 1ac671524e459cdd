-- What moves make of a server's records and of those who wait.
use Rattle.std.proofs.Common.{◌≡◌, ℕ, ◌+◌, Bool, true, false, List, [], ◌∷◌, ◌++◌, refl, sym, ◌∙◌, subst, if◌then◌else◌}
use Rattle.std.specs.Prelude.{Option, None, Some}
use Rattle.event_record.specs.declared.record.RecordFields.{RecordFields}
use Rattle.file_tree.specs.Book.{Entry}
use Rattle.group_rules.proofs.Tests.{if_is, if_not}
use Rattle.group_rules.specs.Misfits.{misfits}
use Rattle.group_rules.specs.Moves.{Applying, Choosing, Collecting, Flushing, Hearing, Move, Noting, Opening, Reading, Saying, Sending, act, acts}
use Rattle.group_rules.specs.Open.{and_then, formed_tests, on_formed, open_heard, open_moves, open_tests, try_open}
use Rattle.group_rules.specs.Places.{Place, all_of, get, is_s01, partner}
use Rattle.group_rules.specs.Replicate.{answers}
use Rattle.group_rules.specs.Serving.{gives, held_tests, on_fetch, serving_accepted, serving_joined}
use Rattle.group_rules.specs.State.{Message, Server, top}
use Rattle.group_rules.specs.Step.{Comes, on_message, rule}
use Rattle.harp_types.specs.Limits.{clock_skew}
use Rattle.harp_types.specs.declared.peer.Peer.{Peer}
use Rattle.node.specs.Stock.{Stock, Stocks, stock_after, stock_by}
use Rattle.node.proofs.Sent.{AreSent}
use Rattle.std.specs.Prelude.{nat_le}

abbrev pub as_stock : (log pulled : List RecordFields) (waits : List Peer) → Stock
as_stock log pulled waits = record { log = log; pulled = pulled; waits = waits }

-- ---- one list of moves after the other

pub stock_then : (q : Place) (clock : ℕ) (list : List Entry) (came : List RecordFields)
    (askers : List Peer) (s : Server Entry) (ms ns : List (Move Entry)) (k : Stock)
    → stock_after q clock list came askers s (ms ++ ns) k
    ≡ stock_after q clock list came askers (acts q clock s ms) ns
    (stock_after q clock list came askers s ms k)
stock_then q clock list came askers s [] ns k = refl
stock_then q clock list came askers s (m ∷ ms) ns k =
    stock_then q clock list came askers (act q clock s m) ms ns
    (stock_by q list came askers s m k)

-- ---- moves that leave it

abbrev pub IsIdle : Move Entry → Type 0
IsIdle (Collecting reports) = Unit {0}
IsIdle (Choosing plan from) = Unit {0}
IsIdle (Hearing x lb) = Unit {0}
IsIdle (Opening lb) = Unit {0}
IsIdle (Noting t lb until) = Unit {0}
IsIdle (Applying n) = Unit {0}
IsIdle Flushing = Unit {0}
IsIdle (Reading n e) = Unit {0}
IsIdle (Saying say) = Unit {0}
IsIdle (Sending to m) = Unit {0}
IsIdle m = ⊥

abbrev pub AreIdle : List (Move Entry) → Type 0
AreIdle [] = Unit {0}
AreIdle (m ∷ ms) = IsIdle m × AreIdle ms

idle_by : (q : Place) (list : List Entry) (came : List RecordFields) (askers : List Peer)
    (s : Server Entry) (m : Move Entry) (k : Stock) → IsIdle m
    → stock_by q list came askers s m k ≡ k
idle_by q list came askers s (Collecting reports) k h = refl
idle_by q list came askers s (Choosing plan from) k h = refl
idle_by q list came askers s (Hearing x lb) k h = refl
idle_by q list came askers s (Opening lb) k h = refl
idle_by q list came askers s (Noting t lb until) k h = refl
idle_by q list came askers s (Applying n) k h = refl
idle_by q list came askers s Flushing k h = refl
idle_by q list came askers s (Reading n e) k h = refl
idle_by q list came askers s (Saying say) k h = refl
idle_by q list came askers s (Sending to m) k h = refl
idle_by q list came askers s m k h = absurd h

pub idle_stock : (q : Place) (clock : ℕ) (list : List Entry) (came : List RecordFields)
    (askers : List Peer) (s : Server Entry) (ms : List (Move Entry)) (k : Stock) → AreIdle ms
    → stock_after q clock list came askers s ms k ≡ k
idle_stock q clock list came askers s [] k h = refl
idle_stock q clock list came askers s (m ∷ ms) k h =
    idle_stock q clock list came askers (act q clock s m) ms
    (stock_by q list came askers s m k) h.1
    ∙ idle_by q list came askers s m k h.0

pub idle_if : (b : Bool) (ms ns : List (Move Entry)) → AreIdle ms → AreIdle ns
    → AreIdle (if b then ms else ns)
idle_if true ms ns h k = h
idle_if false ms ns h k = k

pub idle_then : (ms ns : List (Move Entry)) → AreIdle ms → AreIdle ns → AreIdle (ms ++ ns)
idle_then [] ns h k = k
idle_then (m ∷ ms) ns h k = (h.0, idle_then ms ns h.1 k)

pub idle_sent : (ms : List (Move Entry)) → AreSent ms → AreIdle ms
idle_sent [] h = tt
idle_sent (Sending to m ∷ ms) h = (tt, idle_sent ms h.1)
idle_sent (m ∷ ms) h = absurd h.0

pub idle_answers : (n : ℕ) (es : List Entry) → AreIdle (answers n es)
idle_answers n [] = tt
idle_answers n (e ∷ es) = (tt, idle_answers (n + 1) es)

idle_open_moves : (s : Server Entry) (lb : ℕ) → AreIdle (open_moves s lb)
idle_open_moves s lb = (
  tt,
  idle_then _ _ (idle_if (is_s01 s.plan.storers) _ [] (tt, tt) tt)
      (tt, tt),
)

idle_heard : (clock : ℕ) (s : Server Entry) (heard : Option ℕ) → AreIdle (open_heard clock s heard)
idle_heard clock s None = tt
idle_heard clock s (Some lb) = idle_if (nat_le (s.plan.horizon + clock_skew) clock)
    (open_moves s lb) [] (idle_open_moves s lb) tt

pub idle_open : (q : Place) (clock : ℕ) (s : Server Entry) → AreIdle (try_open q clock s)
idle_open q clock s = idle_if (all_of (open_tests q s))
    (open_heard clock s (get s.heard (partner s.plan.storers))) []
    (idle_heard clock s (get s.heard (partner s.plan.storers))) tt

idle_gives : (size : List Entry → Entry → ℕ) (list : List Entry) (s : Server Entry) (to : Place)
    (v index last : ℕ) → AreIdle (gives size list s to v index last)
idle_gives size list s to v index last = idle_if (all_of (held_tests s index last)) _ [] (tt, tt) tt

pub idle_fetch : (size : List Entry → Entry → ℕ) (list : List Entry) (s : Server Entry)
    (from : Place) (v index : ℕ) → AreIdle (on_fetch size list s from v index)
idle_fetch size list s from v index = idle_if (all_of (serving_joined s v)) _ _
    (idle_gives size list s from v index (top s))
    (idle_if (all_of (serving_accepted s v)) _ [] (idle_gives size list s from v index s.served)
    tt)

pub idle_formed : (s : Server Entry) (from : Place) (v lb : ℕ) → AreIdle (on_formed s from v lb)
idle_formed s from v lb = idle_if (all_of (formed_tests s v)) _ [] (tt, tt) tt

-- a message that makes such moves, whatever its tests say
pub idle_rule : (size : List Entry → Entry → ℕ) (q : Place) (clock : ℕ) (list : List Entry)
    (s : Server Entry) (from : Place) (m : Message Entry)
    → AreIdle (on_message size q clock list s from m)
    → AreIdle (rule size q clock list s (Comes from m))
idle_rule size q clock list s from m h = idle_if (misfits q s from m) [] _ tt
    (idle_then (on_message size q clock list s from m) _ h
    (idle_open q clock (acts q clock s (on_message size q clock list s from m))))

-- ---- the same of moves that are the same

pub stocks_so : (came : List RecordFields) (q : Place) (s : Server Entry)
    (ms ns : List (Move Entry)) (old new : Stock) → ms ≡ ns → Stocks came q s ns old new
    → Stocks came q s ms old new
stocks_so came q s ms ns old new is h =
    subst (λ (xs : List (Move Entry)). Stocks came q s xs old new) (sym is) h

pub stocks_idle : (came : List RecordFields) (q : Place) (s : Server Entry)
    (ms : List (Move Entry)) (old new : Stock) → AreIdle ms → new ≡ old
    → Stocks came q s ms old new
stocks_idle came q s ms old new h is clock list askers =
    is ∙ sym (idle_stock q clock list came askers s ms old h)

-- and then moves that leave it
pub stocks_then : (came : List RecordFields) (q : Place) (s : Server Entry)
    (ms ns : List (Move Entry)) (old new : Stock) → Stocks came q s ms old new → AreIdle ns
    → Stocks came q s (ms ++ ns) old new
stocks_then came q s ms ns old new h idle clock list askers =
    h clock list askers
    ∙ sym (stock_then q clock list came askers s ms ns old
    ∙ idle_stock q clock list came askers (acts q clock s ms) ns
    (stock_after q clock list came askers s ms old) idle)

-- ---- a message that has come

pub stocks_misfit : (size : List Entry → Entry → ℕ) (q : Place) (clock : ℕ) (list : List Entry)
    (s : Server Entry) (from : Place) (m : Message Entry) (b : Bool) (came : List RecordFields)
    (old : Stock) → b ≡ true
    → let ms = on_message size q clock list s from m in
    Stocks came q s (if b then [] else and_then q clock s ms (try_open q clock)) old old
stocks_misfit size q clock list s from m b came old misfit =
    let ms = on_message size q clock list s from m in
    stocks_so came q s (if b then [] else and_then q clock s ms (try_open q clock)) [] old old
    (if_is b [] _ misfit) (λ clock list askers. refl)

pub stocks_taken : (size : List Entry → Entry → ℕ) (q : Place) (clock : ℕ) (list : List Entry)
    (s : Server Entry) (from : Place) (m : Message Entry) (b : Bool) (came : List RecordFields)
    (old new : Stock) → b ≡ false → Stocks came q s (on_message size q clock list s from m) old new
    → let ms = on_message size q clock list s from m in
    Stocks came q s (if b then [] else and_then q clock s ms (try_open q clock)) old new
stocks_taken size q clock list s from m b came old new proper h =
    let ms = on_message size q clock list s from m in
    stocks_so came q s (if b then [] else and_then q clock s ms (try_open q clock))
    (and_then q clock s ms (try_open q clock)) old new (if_not b [] _ proper)
    (stocks_then came q s ms (try_open q clock (acts q clock s ms)) old new h
    (idle_open q clock (acts q clock s ms)))

-- after one more call that leaves it
pub stocks_on : (came : List RecordFields) (q : Place) (s : Server Entry) (ms : List (Move Entry))
    (old mid new : Stock) → Stocks came q s ms old mid → new ≡ mid → Stocks came q s ms old new
stocks_on came q s ms old mid new h is clock list askers = is ∙ h clock list askers
