-- Steps of a server, from what it is given.
use Rattle.std.proofs.Common.{◌≡◌, ℕ, ◌+◌, true, false, List, [], ◌∷◌, ◌++◌, Option, refl, ap, sym, subst, if◌then◌else◌}
use Rattle.std.specs.Prelude.{◌-◌, None, Some, drop, is_some, take}
use Rattle.file_tree.specs.Book.{Entry}
use Rattle.group_rules.specs.Limits.{is_open}
use Rattle.group_rules.specs.Moves.{Move, Sending, acts}
use Rattle.group_rules.specs.Open.{rebase, try_open}
use Rattle.group_rules.specs.Places.{Place, partner}
use Rattle.group_rules.specs.State.{Server}
use Rattle.group_rules.specs.Step.{Input, rule}
use Rattle.group_rules.specs.Tick.{again, beats, duties, events, tick, unacknowledged}
use Rattle.harp_types.specs.declared.peer.Peer.{Peer}
use Rattle.node.specs.Disk.{write_mark}
use Rattle.node.specs.Step.{Steps}
use Rattle.node.specs.Taking.{ruled, stepped}
use Rattle.node.proofs.Calls.{AreSilent, mute, stepped as rule_stepped}
use Rattle.node.proofs.Marks.{IsAlike, alike_same, alike_then, bases_unmarked, none_then, opens_unmarked}
use Rattle.node.proofs.Mute.{none_either, silent_either}
use Rattle.node.proofs.Sent.{AreSent, sent_again, sent_duties, sent_silent, sent_then}
use Rattle.node.proofs.Takes.{silent_open, silent_then}
use Rattle.node_outputs.specs.Makes.{IsMute, Makes}
use Rattle.node_outputs.specs.Said.{nothing, said}
use Rattle.node_outputs.specs.declared.outputs.Outputs.{Outputs}

-- ---- ticks

sent_events : (to : Place) (v cp base n : ℕ) (es : List Entry) → AreSent (events to v cp base n es)
sent_events to v cp base n [] = tt
sent_events to v cp base n (e ∷ es) = (tt, sent_events to v cp base (n + 1) es)

pub sent_beats : (s : Server Entry) → AreSent (beats s)
sent_beats s = (
  tt,
  sent_events (partner s.plan.storers) s.accepted s.cp s.base (unacknowledged s)
      (take 64 (drop (unacknowledged s - s.base) s.items)),
)

none_sent : (ms : List (Move Entry)) → AreSent ms → write_mark ms ≡ false
none_sent [] h = refl
none_sent (Sending to m ∷ ms) h = none_sent ms h.1
none_sent (m ∷ ms) h = absurd h.0

-- the moves of a tick behind those of a leader
abbrev sent_later : (q : Place) (s : Server Entry) → List (Move Entry)
sent_later q s = duties q s s.duty ++ again q s

are_later : (q : Place) (s : Server Entry) → AreSent (sent_later q s)
are_later q s = sent_then (duties q s s.duty) (again q s) (sent_duties q s s.duty) (sent_again q s)

pub silent_tick : (q : Place) (clock : ℕ) (s : Server Entry) → AreSilent (tick q clock s)
silent_tick q clock s =
    let leads = if is_open s.mode then beats s else try_open q clock s in
    silent_then leads (sent_later q (acts q clock s leads))
    (silent_either (is_open s.mode) (beats s) (try_open q clock s)
    (sent_silent (beats s) (sent_beats s)) (silent_open q clock s))
    (sent_silent (sent_later q (acts q clock s leads)) (are_later q (acts q clock s leads)))

pub mute_tick : (q : Place) (clock : ℕ) (s : Server Entry) → IsMute (tick q clock s)
mute_tick q clock s = mute (tick q clock s) (silent_tick q clock s)

pub tick_unmarked : (q : Place) (clock : ℕ) (s : Server Entry) → write_mark (tick q clock s) ≡ false
tick_unmarked q clock s =
    let leads = if is_open s.mode then beats s else try_open q clock s in
    none_then leads (sent_later q (acts q clock s leads))
    (none_either (is_open s.mode) (beats s) (try_open q clock s)
    (none_sent (beats s) (sent_beats s)) (opens_unmarked q clock s))
    (none_sent (sent_later q (acts q clock s leads)) (are_later q (acts q clock s leads)))

-- ---- the base, at the end of a step

pub step_made : (size : List Entry → Entry → ℕ) (q : Place) (clock : ℕ) (list : List Entry)
    (o : Option Input) (peers : List Peer) (old mid new : Server Entry) (before after : Outputs)
    → is_some o ≡ true → said before ≡ nothing
    → Makes q clock (ruled size q clock list old o) peers old mid before after
    → new ≡ acts q clock mid (rebase mid)
    → Steps q clock (stepped size q clock list old o) peers old new after
step_made size q clock list None peers old mid new before after some fresh made moved = cc
step_made size q clock list (Some i) peers old mid new before after some fresh made moved =
    rule_stepped q clock (rule size q clock list old i) peers old mid new before after fresh made
    moved

pub step_alike : (size : List Entry → Entry → ℕ) (q : Place) (clock : ℕ) (list : List Entry)
    (s : Server Entry) (o : Option Input)
    → IsAlike (stepped size q clock list s o) (ruled size q clock list s o)
step_alike size q clock list s None = alike_same [] [] refl
step_alike size q clock list s (Some i) = alike_then (rule size q clock list s i)
    (rebase (acts q clock s (rule size q clock list s i)))
    (bases_unmarked (acts q clock s (rule size q clock list s i)))

-- nothing that is heeded
pub step_none : (size : List Entry → Entry → ℕ) (q : Place) (clock : ℕ) (list : List Entry)
    (o : Option Input) (peers : List Peer) (s : Server Entry) (outs : Outputs)
    → is_some o ≡ false → said outs ≡ nothing
    → Steps q clock (stepped size q clock list s o) peers s s outs
step_none size q clock list None peers s outs none fresh = record { state = refl; said = fresh }
step_none size q clock list (Some i) peers s outs none fresh = cc

pub none_alike : (size : List Entry → Entry → ℕ) (q : Place) (clock : ℕ) (list : List Entry)
    (s : Server Entry) (o : Option Input) → is_some o ≡ false
    → IsAlike (stepped size q clock list s o) []
none_alike size q clock list s None none = alike_same [] [] refl
none_alike size q clock list s (Some i) none = cc

-- ---- what is given, by its form

pub given_makes : (size : List Entry → Entry → ℕ) (q : Place) (clock : ℕ) (list : List Entry)
    (o p : Option Input) (peers : List Peer) (s new : Server Entry) (before after : Outputs)
    → o ≡ p → Makes q clock (ruled size q clock list s p) peers s new before after
    → Makes q clock (ruled size q clock list s o) peers s new before after
given_makes size q clock list o p peers s new before after is made =
    subst (λ (x : Option Input). Makes q clock (ruled size q clock list s x) peers s new before
    after) (sym is) made

pub given_alike : (size : List Entry → Entry → ℕ) (q : Place) (clock : ℕ) (list : List Entry)
    (s : Server Entry) (o p : Option Input) → o ≡ p
    → IsAlike (ruled size q clock list s o) (ruled size q clock list s p)
given_alike size q clock list s o p is =
    alike_same _ _ (ap (ruled size q clock list s) is)
