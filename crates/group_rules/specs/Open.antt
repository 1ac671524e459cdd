-- Opening a view, and the base of an open leader.
use Rattle.std.specs.Prelude.{ℕ, ◌+◌, ◌||◌, ◌==◌, nat_le, nat_lt, Bool, List, [], ◌∷◌, ◌++◌, Option, None, Some, min, if◌then◌else◌}
use Rattle.harp_types.specs.Limits.{clock_skew}
use Rattle.group_rules.specs.Limits.{is_joining, is_open, is_waits}
use Rattle.group_rules.specs.Moves.{Basing, Hearing, Move, Opening, Sending, acts}
use Rattle.group_rules.specs.Places.{Two, Place, all_of, get, is_s01, leader, partner, same}
use Rattle.group_rules.specs.State.{Beat, Demote, Server, top}

-- Formed: kept by sender from joining on, the last one counts
abbrev pub formed_tests : {E : Type 0} → Server E → ℕ → List Bool
formed_tests s v = (v == s.promised) ∷ (is_joining s.mode || is_waits s.mode) ∷ []

abbrev pub on_formed : {E : Type 0} → Server E → Place → ℕ → ℕ → List (Move E)
on_formed s from v lb = if all_of (formed_tests s v) then Hearing from lb ∷ [] else []

-- The opening: a leader beside a data server sends Demote to server 2, and then Beat to its partner
abbrev pub open_moves : {E : Type 0} → Server E → ℕ → List (Move E)
open_moves s lb = Opening lb
    ∷ ((if is_s01 s.plan.storers then Sending Two (Demote s.accepted) ∷ [] else [])
    ++ Sending (partner s.plan.storers) (Beat s.accepted (top s) s.base) ∷ [])

-- its partner's Formed has come, and its clock is at least the horizon and the clocks' skew
abbrev pub open_heard : {E : Type 0} → ℕ → Server E → Option ℕ → List (Move E)
open_heard clock s None = []
open_heard clock s (Some lb) = if nat_le (s.plan.horizon + clock_skew) clock then open_moves s lb else []

abbrev pub open_tests : {E : Type 0} → Place → Server E → List Bool
open_tests q s = is_waits s.mode ∷ same q (leader s.plan.storers) ∷ []

-- The test of opening: made once a tick, and at the end of each server message that isn't a misfit
abbrev pub try_open : {E : Type 0} → Place → ℕ → Server E → List (Move E)
try_open q clock s = if all_of (open_tests q s) then open_heard clock s (get s.heard (partner s.plan.storers)) else []

abbrev pub base_tests : {E : Type 0} → Server E → List Bool
base_tests s = is_open s.mode ∷ is_s01 s.plan.storers ∷ nat_lt s.base (min s.lb s.told_lb) ∷ []

-- Base: an open leader beside a data server drops the records that both have on their disks; beside a witness it
-- drops none
abbrev pub rebase : {E : Type 0} → Server E → List (Move E)
rebase s = if all_of (base_tests s) then Basing (min s.lb s.told_lb) ∷ [] else []

-- moves, and then those that depend on what they leave
abbrev pub and_then : {E : Type 0} → Place → ℕ → Server E → List (Move E) → (Server E → List (Move E)) → List (Move E)
and_then q clock s ms next = ms ++ next (acts q clock s ms)
