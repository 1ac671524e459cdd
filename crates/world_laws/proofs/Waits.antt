-- Each update above CP keeps somebody who waits for it.
use Rattle.std.proofs.Common.{◌≡◌, ℕ, ◌-◌, ◌≤◌, Bool, true, false, List, [], ◌∷◌, length, Option, None, Some, nat_lt, refl, sym, subst, arith, length-append}
use Rattle.std.specs.Prelude.{⊤, ◌&&◌}
use Rattle.std.specs.List.{AllByRecursion}
use Rattle.std.proofs.lemmas.List.{length-drop}
use Rattle.event_record.specs.declared.record.RecordFields.{RecordFields}
use Rattle.file_tree.specs.Book.{Entry}
use Rattle.group_rules.proofs.Tests.{by_if}
use Rattle.group_rules.specs.Effects.{booted, demoted_by, down, lengthened, load_tests, loaded}
use Rattle.group_rules.specs.Limits.{can_have, is_outside}
use Rattle.group_rules.specs.Moves.{Accepting, Appending, Applying, Basing, Booting, Choosing, Collecting, Committing, Demoting, Falling, Flushing, Hearing, Heeding, Joining, Move, Noting, Opening, Pulling, Reading, Saving, Saying, Sending, Staging, act, acts, moved}
use Rattle.group_rules.specs.Places.{Place, all_of, is_p2}
use Rattle.group_rules.specs.State.{Group, Mark, Mode, Open, Rests, Saved, Server, mark_of}
use Rattle.group_safety.proofs.Moving.{Goes, Good, May, its}
use Rattle.group_safety.specs.Words.{IsActive}
use Rattle.harp_types.specs.declared.peer.Peer.{Peer}
use Rattle.world_laws.specs.Waits.{HasWaits, RestingWait}
use Rattle.node.specs.Stock.{Stock, stock_after, stock_by}

-- ---- servers that rest

rests_wait : (s : Server Entry) (k : Stock) → s.mode ≡ Rests → HasWaits s k
rests_wait s k r o = cc

loaded_rests : (q : Place) (clock delta : ℕ) (m : Mark Entry) (v : Option (Saved Entry))
    → (loaded q clock delta m v).mode ≡ Rests
loaded_rests q clock delta m None = refl
loaded_rests q clock delta m (Some v) = by_if (λ (s : Server Entry). s.mode ≡ Rests)
    (all_of (can_have q m.role ∷ load_tests m.lb v)) _ _ (λ _. refl) (λ _. refl)

booted_rests : (q : Place) (clock delta : ℕ) (m : Mark Entry)
    → (booted q clock delta m).mode ≡ Rests
booted_rests q clock delta m = by_if (λ (s : Server Entry). s.mode ≡ Rests)
    (is_p2 q && is_outside m.role) _ _ (λ _. refl)
    (λ _. loaded_rests q clock delta (lengthened delta m) m.saved)

pub resting_wait : RestingWait
resting_wait = record {
  after_fall = λ m k. rests_wait (down m) k refl;
  after_boot = λ q clock delta m k. rests_wait (booted q clock delta m) k
      (booted_rests q clock delta m);
}

-- ---- a move

-- what a move appends has somebody who asked
abbrev pub HasAsker : List Peer → Move Entry → Type 0
HasAsker askers (Appending e) = 1 ≤ length askers
HasAsker askers m = ⊤

-- CP never goes back, and an open leader's base moves within it
abbrev pub GoesOn : Server Entry → Move Entry → Type 0
GoesOn s (Committing n) = s.cp ≤ n
GoesOn s (Basing n) = s.mode ≡ Open → n ≤ s.cp
GoesOn s m = ⊤

demoted_waits : (b : Bool) (s : Server Entry) (v : ℕ) (k : Stock) → HasWaits (demoted_by b s v) k
demoted_waits true s v k = λ o. omega arith
demoted_waits false s v k = λ o. cc

move_waits : (q : Place) (clock : ℕ) (list : List Entry) (came : List RecordFields)
    (askers : List Peer) (s : Server Entry) (k : Stock) (m : Move Entry) → HasAsker askers m
    → GoesOn s m → HasWaits s k
    → HasWaits (act q clock s m) (stock_by q list came askers s m k)
move_waits q clock list came askers s k (Joining v duty) a b h = λ o. cc
move_waits q clock list came askers s k (Collecting reports) a b h = h
move_waits q clock list came askers s k (Choosing plan from) a b h = h
move_waits q clock list came askers s k (Pulling plan from) a b h = λ o. cc
move_waits q clock list came askers s k (Staging items) a b h = h
move_waits q clock list came askers s k (Hearing x lb) a b h = h
move_waits q clock list came askers s k (Accepting plan role n) a b h = λ o. cc
move_waits q clock list came askers s k (Opening lb) a b h = λ o. omega arith
move_waits q clock list came askers s k (Heeding items cp base) a b h = λ o. cc
move_waits q clock list came askers s k (Appending e) a b h = λ o.
    omega (arith, h o, a, length-append s.items (e ∷ []), length-append k.waits askers)
move_waits q clock list came askers s k (Noting t lb until) a b h = h
move_waits q clock list came askers s k (Committing n) a b h = λ o.
    omega (arith, h o, b, length-drop (n - s.cp) k.waits)
move_waits q clock list came askers s k (Basing n) a b h = λ o.
    omega (arith, h o, b o, length-drop (n - s.base) s.items)
move_waits q clock list came askers s k (Applying n) a b h = h
move_waits q clock list came askers s k Flushing a b h = h
move_waits q clock list came askers s k (Demoting v) a b h =
    demoted_waits (nat_lt v s.promised) s v (stock_by q list came askers s (Demoting v) k)
move_waits q clock list came askers s k Saving a b h = λ o. cc
move_waits q clock list came askers s k Falling a b h = λ o. cc
move_waits q clock list came askers s k (Booting delta) a b h =
    rests_wait (booted q clock delta (mark_of s)) k (booted_rests q clock delta (mark_of s))
move_waits q clock list came askers s k (Reading n e) a b h = h
move_waits q clock list came askers s k (Saying say) a b h = h
move_waits q clock list came askers s k (Sending to m) a b h = h

-- ---- moves

first_good : (ms : List (Move Entry)) (g : Group Entry) (q : Place) (s : Server Entry)
    → Goes g q s ms → Good g q s
unfolding Goes
first_good [] g q s h = h
first_good (m ∷ ms) g q s h = h.0

-- so it is in each group that meets the facts
goes_on : (g : Group Entry) (q : Place) (s : Server Entry) (m : Move Entry) → May g q s m
    → Good (moved g q s m) q (act q (g.clock q) s m) → GoesOn s m
goes_on g q s (Committing n) may h = may.0.1
goes_on g q s (Basing n) may h = λ o.
    let active : IsActive s.mode = subst (λ (m : Mode). IsActive m) (sym o) tt in
    ((its h).logs.log ((its h).modes.active active).0).base_cp
goes_on g q s m may h = tt

pub moves_wait : (ms : List (Move Entry)) (g : Group Entry) (q : Place) (s : Server Entry)
    → Goes g q s ms → (list : List Entry) (came : List RecordFields) (askers : List Peer)
    → AllByRecursion (HasAsker askers) ms → (k : Stock) → HasWaits s k
    → HasWaits (acts q (g.clock q) s ms)
    (stock_after q (g.clock q) list came askers s ms k)
unfolding Goes
moves_wait [] g q s goes list came askers a k h = h
moves_wait (m ∷ ms) g q s goes list came askers a k h =
    moves_wait ms (moved g q s m) q (act q (g.clock q) s m) goes.2 list came askers a.1
    (stock_by q list came askers s m k)
    (move_waits q (g.clock q) list came askers s k m a.0
    (goes_on g q s m goes.1 (first_good ms (moved g q s m) q (act q (g.clock q) s m) goes.2)) h)
