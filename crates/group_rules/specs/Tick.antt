-- What a server sends at a tick: again, or anew where it leads, pulls or forms a view.
use Rattle.std.specs.Prelude.{ℕ, ◌+◌, ◌-◌, ◌&&◌, ◌==◌, not, Bool, true, false, List, [], ◌∷◌, ◌++◌, length, take, drop, Option, None, Some, max, if◌then◌else◌}
use Rattle.group_rules.specs.Joining.{to_each}
use Rattle.group_rules.specs.Limits.{is_open, is_pulls, is_settled, is_waits}
use Rattle.group_rules.specs.Moves.{Move, Sending}
use Rattle.group_rules.specs.Open.{and_then, try_open}
use Rattle.group_rules.specs.Places.{Zero, One, Two, Place, all_of, get, leader, other_storers, partner, same}
use Rattle.group_rules.specs.State.{Beat, Chose, Collects, Duty, Event, Fetch, Form, Formed, Invite, NoDuty, Plan, Report, Server}

-- the Events of these entries, the first with n records before it
abbrev pub events : {E : Type 0} → Place → ℕ → ℕ → ℕ → ℕ → List E → List (Move E)
events to v cp base n [] = []
events to v cp base n (e ∷ es) = Sending to (Event v (n + 1) cp base e) ∷ events to v cp base (n + 1) es

-- where the records begin that the partner didn't acknowledge
abbrev pub unacknowledged : {E : Type 0} → Server E → ℕ
unacknowledged s = max s.base s.told_top

-- An open leader sends Beat, and then the records above its partner's told top, at most 64, each as an Event
abbrev pub beats : {E : Type 0} → Server E → List (Move E)
beats s = Sending (partner s.plan.storers) (Beat s.accepted s.cp s.base)
    ∷ events (partner s.plan.storers) s.accepted s.cp s.base (unacknowledged s)
    (take 64 (drop (unacknowledged s - s.base) s.items))

abbrev pub invite_again : {E : Type 0} → ℕ → Place → Option Report → List (Move E)
invite_again v q None = Sending q (Invite v) ∷ []
invite_again v q (Some t) = []

abbrev pub heard_some : Option ℕ → Bool
heard_some None = false
heard_some (Some lb) = true

-- it isn't settled, promised no higher view, and hasn't heard its partner's Formed where it leads the view itself
abbrev pub duty_tests : {E : Type 0} → Place → Server E → ℕ → Plan → List Bool
duty_tests q s v plan = (v == s.promised) ∷ not (is_settled s.mode)
    ∷ not (same q (leader plan.storers) && heard_some (get s.heard (partner plan.storers))) ∷ []

-- A coordinator without a choice invites again those that haven't joined; one with a choice sends Form again
abbrev pub duties : {E : Type 0} → Place → Server E → Duty → List (Move E)
duties q s NoDuty = []
duties q s (Collects reports) = invite_again s.promised Zero (get reports Zero)
    ++ (invite_again s.promised One (get reports One) ++ invite_again s.promised Two (get reports Two))
duties q s (Chose v plan) = if all_of (duty_tests q s v plan)
    then to_each (Form v plan) (other_storers q plan.storers) else []

abbrev pub again_tests : {E : Type 0} → Place → Server E → List Bool
again_tests q s = is_waits s.mode ∷ same q (partner s.plan.storers) ∷ []

-- A puller sends its Fetch again; an active partner that isn't settled sends Formed again
abbrev pub again : {E : Type 0} → Place → Server E → List (Move E)
again q s =
    (if is_pulls s.mode then Sending s.plan.source (Fetch s.promised (s.wanted_from + length s.staged + 1)) ∷ []
    else [])
    ++ (if all_of (again_tests q s) then Sending (leader s.plan.storers) (Formed s.accepted s.lb) ∷ [] else [])

-- First the test of opening. A leader that was open before sends Beat and Events; then what the coordinator, the
-- puller and the partner send again
abbrev pub tick : {E : Type 0} → Place → ℕ → Server E → List (Move E)
tick q clock s = and_then q clock s (if is_open s.mode then beats s else try_open q clock s) (λ s. duties q s s.duty
    ++ again q s)
