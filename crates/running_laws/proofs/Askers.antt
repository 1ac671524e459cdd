-- Who waits at an open leader asked for what it hasn't committed, in the order of its log.
use Rattle.std.proofs.Common.{◌≡◌, ℕ, zero, suc, ◌+◌, ◌-◌, ◌≤◌, ◌&&◌, Bool, true, false, nat_lt, List, [], ◌∷◌, ◌++◌, drop, length, Option, None, Some, refl, sym, ap, ◌∙◌, subst, arith, drop-drop}
use Rattle.std.specs.Prelude.{⊤}
use Rattle.std.specs.List.{AllByRecursion}
use Rattle.std.proofs.lemmas.List.{drop-append-le, drop_all}
use Rattle.std.proofs.lemmas.List.Elements.{Contains-append_left}
use Rattle.event_record.specs.declared.record.RecordFields.{RecordFields}
use Rattle.file_tree.specs.Book.{Entry}
use Rattle.group_rules.proofs.Tests.{by_if}
use Rattle.group_rules.specs.Effects.{booted, demoted_by, lengthened, load_tests, loaded}
use Rattle.group_rules.specs.Limits.{can_have, is_outside}
use Rattle.group_rules.specs.Moves.{Accepting, Appending, Applying, Basing, Booting, Choosing, Collecting, Committing, Demoting, Falling, Flushing, Hearing, Heeding, Joining, Move, Noting, Opening, Pulling, Reading, Saving, Saying, Sending, Staging, act, acts, moved}
use Rattle.group_rules.specs.Places.{Place, all_of, is_p2}
use Rattle.group_rules.specs.State.{Group, Joins, Live, Mark, Mode, Open, Pulls, Rests, Saved, Server, Waits, mark_of}
use Rattle.group_safety.proofs.Moving.{Goes, Good, its}
use Rattle.group_safety.specs.Words.{IsActive}
use Rattle.harp_types.specs.Update.{is_update}
use Rattle.harp_types.specs.declared.call.Call.{Call}
use Rattle.harp_types.specs.declared.cred.Cred.{Cred}
use Rattle.harp_types.specs.declared.peer.Peer.{Peer}
use Rattle.node.specs.Stock.{Stock, stock_after, stock_by}
use Rattle.trace_laws.proofs.Amid.{goes_later, goes_may, goes_now}
use Rattle.trace_types.specs.declared.step.Step.{Step}
use Rattle.trace_types.specs.declared.step.Step.TheVariants as step
use Rattle.running_laws.specs.Books.{WasAsked}
use Rattle.running_laws.specs.Events.{Event}
use Rattle.running_laws.specs.Follows.{AreAskers, HasAskers, IsAskedStep, WaitIn, above_cp}

-- ---- what was asked before more events was asked before all of them

pub was_more : (es more : List Event) (client number : ℕ) (cred : Cred) (call : Call)
    (peer : Peer) → WasAsked es client number cred call peer
    → WasAsked (es ++ more) client number cred call peer
was_more es more client number cred call peer w = record {
  event = w.event;
  among = Contains-append_left es more w.event w.among;
  datagram = w.datagram;
  takes = w.takes;
  from = w.from;
  asks = w.asks;
}

step_more : (es more : List Event) (s : Step) → IsAskedStep es s → IsAskedStep (es ++ more) s
step_more es more (step.Ask server client number cred call) a =
    (a.0, was_more es more client number cred call a.0 a.1)
step_more es more s a = tt

pub steps_more : (es more : List Event) (ss : List Step)
    → AllByRecursion (IsAskedStep es) ss → AllByRecursion (IsAskedStep (es ++ more)) ss
steps_more es more [] h = tt
steps_more es more (s ∷ ss) h = (step_more es more s h.0, steps_more es more ss h.1)

askers_more : (es more : List Event) (xs : List Entry) (peers : List Peer)
    → AreAskers es xs peers → AreAskers (es ++ more) xs peers
askers_more es more [] [] h = tt
askers_more es more [] (p ∷ peers) h = h
askers_more es more (x ∷ xs) [] h = h
askers_more es more (x ∷ xs) (p ∷ peers) h = (
  h.0,
  was_more es more x.client x.number x.cred x.call p h.1,
  askers_more es more xs peers h.2,
)

wait_more : (es more : List Event) (m : Mode) (xs : List Entry) (peers : List Peer)
    → WaitIn es m xs peers → WaitIn (es ++ more) m xs peers
wait_more es more Open xs peers h = askers_more es more xs peers h
wait_more es more Waits xs peers h = h
wait_more es more m xs peers h = tt

pub has_more : (es more : List Event) (s : Server Entry) (peers : List Peer)
    → HasAskers es s peers → HasAskers (es ++ more) s peers
has_more es more s peers h = wait_more es more s.mode (above_cp s) peers h

-- ---- lists of askers

askers_drop : (es : List Event) (n : ℕ) (xs : List Entry) (peers : List Peer)
    → AreAskers es xs peers → AreAskers es (drop n xs) (drop n peers)
askers_drop es zero xs peers h = h
askers_drop es (suc n) [] [] h = tt
askers_drop es (suc n) [] (p ∷ peers) h = absurd h
askers_drop es (suc n) (x ∷ xs) [] h = absurd h
askers_drop es (suc n) (x ∷ xs) (p ∷ peers) h = askers_drop es n xs peers h.2

askers_push : (es : List Event) (xs : List Entry) (peers : List Peer) (x : Entry) (p : Peer)
    → AreAskers es xs peers → is_update x.call ≡ true
    → WasAsked es x.client x.number x.cred x.call p
    → AreAskers es (xs ++ x ∷ []) (peers ++ p ∷ [])
askers_push es [] [] x p h u w = (u, w, tt)
askers_push es [] (q ∷ peers) x p h u w = absurd h
askers_push es (y ∷ xs) [] x p h u w = absurd h
askers_push es (y ∷ xs) (q ∷ peers) x p h u w =
    (h.0, h.1, askers_push es xs peers x p h.2 u w)

none_ask : (es : List Event) (m : Mode) → WaitIn es m [] []
none_ask es Rests = tt
none_ask es Joins = tt
none_ask es Pulls = tt
none_ask es Waits = refl
none_ask es Open = tt
none_ask es Live = tt

-- the records count at an open leader alone
other_records : (es : List Event) (m : Mode) (xs ys : List Entry) (peers : List Peer)
    → (m ≡ Open → xs ≡ ys) → WaitIn es m xs peers → WaitIn es m ys peers
other_records es Rests xs ys peers same h = tt
other_records es Joins xs ys peers same h = tt
other_records es Pulls xs ys peers same h = tt
other_records es Waits xs ys peers same h = h
other_records es Open xs ys peers same h =
    subst (λ (zs : List Entry). AreAskers es zs peers) (same refl) h
other_records es Live xs ys peers same h = tt

-- ---- what a move rests on

-- a leader that opens waited; CP and an open leader's base don't go back, and the base is within CP
abbrev pub GoesBy : Server Entry → Move Entry → Type 0
GoesBy s (Opening lb) = s.mode ≡ Waits
GoesBy s (Committing n) = (s.mode ≡ Open) × (s.base ≤ s.cp) × (s.cp ≤ n)
GoesBy s (Basing n) = (s.base ≤ n) × (s.mode ≡ Open → n ≤ s.cp)
GoesBy s m = ⊤

active_open : (m : Mode) → m ≡ Open → IsActive m
active_open m o = subst (λ (k : Mode). IsActive k) (sym o) tt

-- the log of an open leader
pub open_numbers : (g : Group Entry) (q : Place) (s : Server Entry) → Good g q s → s.mode ≡ Open
    → (s.base ≤ s.cp) × (s.cp ≤ s.base + length s.items)
open_numbers g q s h o =
    let log = (its h).logs.log ((its h).modes.active (active_open s.mode o)).0 in
    (log.base_cp, log.cp_top)

goes_by : (m : Move Entry) (ms : List (Move Entry)) (g : Group Entry) (q : Place)
    (s : Server Entry) → Goes g q s (m ∷ ms) → GoesBy s m
goes_by (Opening lb) ms g q s h = (goes_may (Opening lb) ms g q s h).0.0
goes_by (Committing n) ms g q s h =
    let may = (goes_may (Committing n) ms g q s h).0 in
    (may.0, (open_numbers g q s (goes_now (Committing n ∷ ms) g q s h) may.0).0, may.1)
goes_by (Basing n) ms g q s h = (
  (goes_may (Basing n) ms g q s h).3.1,
  λ o. (open_numbers (moved g q s (Basing n)) q (act q (g.clock q) s (Basing n))
      (goes_now ms (moved g q s (Basing n)) q (act q (g.clock q) s (Basing n))
      (goes_later (Basing n) ms g q s h)) o).0,
)
goes_by m ms g q s h = tt

-- ---- a move

abbrev pub AppendsNone : Move Entry → Type 0
AppendsNone (Appending e) = ⊥
AppendsNone m = ⊤

loads_rest : (q : Place) (clock delta : ℕ) (m : Mark Entry) (v : Option (Saved Entry))
    → (loaded q clock delta m v).mode ≡ Rests
loads_rest q clock delta m None = refl
loads_rest q clock delta m (Some v) = by_if (λ (s : Server Entry). s.mode ≡ Rests)
    (all_of (can_have q m.role ∷ load_tests m.lb v)) _ _ (λ _. refl) (λ _. refl)

boots_rest : (q : Place) (clock delta : ℕ) (m : Mark Entry)
    → (booted q clock delta m).mode ≡ Rests
boots_rest q clock delta m = by_if (λ (s : Server Entry). s.mode ≡ Rests)
    (is_p2 q && is_outside m.role) _ _ (λ _. refl)
    (λ _. loads_rest q clock delta (lengthened delta m) m.saved)

demoted_none : (es : List Event) (b : Bool) (s : Server Entry) (v : ℕ)
    → HasAskers es (demoted_by b s v) []
demoted_none es true s v = none_ask es s.mode
demoted_none es false s v = tt

rests_any : (es : List Event) (s : Server Entry) (peers : List Peer) → s.mode ≡ Rests
    → HasAskers es s peers
rests_any es s peers r =
    subst (λ (m : Mode). WaitIn es m (above_cp s) peers) (sym r) tt

opens_none : (es : List Event) (s : Server Entry) (peers : List Peer) → s.mode ≡ Waits
    → HasAskers es s peers
    → AreAskers es (drop (s.base + length s.items - s.base) s.items) peers
opens_none es s peers w h =
    let none : peers ≡ [] = subst (λ (m : Mode). WaitIn es m (above_cp s) peers) w h in
    subst (λ (ps : List Peer). AreAskers es (drop (s.base + length s.items - s.base) s.items) ps)
    (sym none)
    (subst (λ (xs : List Entry). AreAskers es xs [])
    (sym (drop_all (s.base + length s.items - s.base) s.items (omega arith))) tt)

commits_drop : (es : List Event) (s : Server Entry) (peers : List Peer) (n : ℕ)
    → s.mode ≡ Open → s.base ≤ s.cp → s.cp ≤ n → HasAskers es s peers
    → WaitIn es s.mode (drop (n - s.base) s.items) (drop (n - s.cp) peers)
commits_drop es s peers n o low le h =
    let asked : AreAskers es (above_cp s) peers =
    subst (λ (m : Mode). WaitIn es m (above_cp s) peers) o h in
    let count : s.cp - s.base + (n - s.cp) ≡ n - s.base = omega (arith, low, le) in
    let rest : drop (n - s.cp) (above_cp s) ≡ drop (n - s.base) s.items =
    drop-drop (n - s.cp) (s.cp - s.base) s.items ∙ ap (λ k. drop k s.items) count in
    subst (λ (m : Mode). WaitIn es m (drop (n - s.base) s.items) (drop (n - s.cp) peers)) (sym o)
    (subst (λ (xs : List Entry). AreAskers es xs (drop (n - s.cp) peers)) rest
    (askers_drop es (n - s.cp) (above_cp s) peers asked))

bases_drop : (s : Server Entry) (n : ℕ) → s.base ≤ n → n ≤ s.cp
    → above_cp s ≡ drop (s.cp - n) (drop (n - s.base) s.items)
bases_drop s n low le =
    let count : n - s.base + (s.cp - n) ≡ s.cp - s.base = omega (arith, low, le) in
    sym (drop-drop (s.cp - n) (n - s.base) s.items ∙ ap (λ k. drop k s.items) count)

move_keeps : (es : List Event) (q : Place) (clock : ℕ) (list : List Entry)
    (came : List RecordFields) (askers : List Peer) (s : Server Entry) (k : Stock)
    (m : Move Entry) → AppendsNone m → GoesBy s m → HasAskers es s k.waits
    → HasAskers es (act q clock s m) (stock_by q list came askers s m k).waits
move_keeps es q clock list came askers s k (Joining v duty) a b h = tt
move_keeps es q clock list came askers s k (Collecting reports) a b h = h
move_keeps es q clock list came askers s k (Choosing plan from) a b h = h
move_keeps es q clock list came askers s k (Pulling plan from) a b h = tt
move_keeps es q clock list came askers s k (Staging items) a b h = h
move_keeps es q clock list came askers s k (Hearing x lb) a b h = h
move_keeps es q clock list came askers s k (Accepting plan role n) a b h = refl
move_keeps es q clock list came askers s k (Opening lb) a b h = opens_none es s k.waits b h
move_keeps es q clock list came askers s k (Heeding items cp base) a b h = tt
move_keeps es q clock list came askers s k (Appending e) a b h = absurd a
move_keeps es q clock list came askers s k (Noting t lb until) a b h = h
move_keeps es q clock list came askers s k (Committing n) a b h =
    commits_drop es s k.waits n b.0 b.1 b.2 h
move_keeps es q clock list came askers s k (Basing n) a b h =
    other_records es s.mode (above_cp s) (drop (s.cp - n) (drop (n - s.base) s.items)) k.waits
    (λ o. bases_drop s n b.0 (b.1 o)) h
move_keeps es q clock list came askers s k (Applying n) a b h = h
move_keeps es q clock list came askers s k Flushing a b h = h
move_keeps es q clock list came askers s k (Demoting v) a b h =
    demoted_none es (nat_lt v s.promised) s v
move_keeps es q clock list came askers s k Saving a b h = tt
move_keeps es q clock list came askers s k Falling a b h = tt
move_keeps es q clock list came askers s k (Booting delta) a b h =
    rests_any es (booted q clock delta (mark_of s)) k.waits
    (boots_rest q clock delta (mark_of s))
move_keeps es q clock list came askers s k (Reading n e) a b h = h
move_keeps es q clock list came askers s k (Saying say) a b h = h
move_keeps es q clock list came askers s k (Sending to m) a b h = h

-- MOVES KEEP WHO WAITS, where they append nothing
pub moves_keep : (ms : List (Move Entry)) (es : List Event) (g : Group Entry) (q : Place)
    (s : Server Entry) → Goes g q s ms → (list : List Entry) (came : List RecordFields)
    (askers : List Peer) → AllByRecursion AppendsNone ms → (k : Stock) → HasAskers es s k.waits
    → HasAskers es (acts q (g.clock q) s ms)
    (stock_after q (g.clock q) list came askers s ms k).waits
moves_keep [] es g q s goes list came askers a k h = h
moves_keep (m ∷ ms) es g q s goes list came askers a k h =
    moves_keep ms es (moved g q s m) q (act q (g.clock q) s m) (goes_later m ms g q s goes) list
    came askers a.1 (stock_by q list came askers s m k)
    (move_keeps es q (g.clock q) list came askers s k m a.0 (goes_by m ms g q s goes) h)

-- what an open leader appends has its own asker
pub append_keeps : (es : List Event) (g : Group Entry) (q : Place) (s : Server Entry)
    (list : List Entry) (came : List RecordFields) (p : Peer) (k : Stock) (e : Entry)
    → Good g q s → s.mode ≡ Open → is_update e.call ≡ true
    → WasAsked es e.client e.number e.cred e.call p → HasAskers es s k.waits
    → HasAskers es (act q (g.clock q) s (Appending e))
    (stock_by q list came (p ∷ []) s (Appending e) k).waits
append_keeps es g q s list came p k e good o u w h =
    let asked : AreAskers es (above_cp s) k.waits =
    subst (λ (m : Mode). WaitIn es m (above_cp s) k.waits) o h in
    let numbers = open_numbers g q s good o in
    let low = numbers.0 in
    let high = numbers.1 in
    let longer : drop (s.cp - s.base) (s.items ++ e ∷ []) ≡ above_cp s ++ e ∷ [] =
    drop-append-le (s.cp - s.base) s.items (e ∷ []) (omega (arith, low, high)) in
    subst (λ (m : Mode). WaitIn es m (drop (s.cp - s.base) (s.items ++ e ∷ []))
    (k.waits ++ p ∷ [])) (sym o)
    (subst (λ (xs : List Entry). AreAskers es xs (k.waits ++ p ∷ [])) (sym longer)
    (askers_push es (above_cp s) k.waits e p asked u w))
