-- Suspicion, invite, join and the coordinator's choice.
use Rattle.std.specs.Prelude.{ℕ, ◌/◌, ◌==◌, nat_lt, Bool, List, [], ◌∷◌, ◌++◌, Option, None, Some, if◌then◌else◌}
use Rattle.group_rules.specs.Choose.{choose, greatest}
use Rattle.group_rules.specs.Effects.{report_of}
use Rattle.group_rules.specs.Form.{form_moves}
use Rattle.group_rules.specs.Limits.{is_joining, limit}
use Rattle.group_rules.specs.Moves.{Choosing, Collecting, Joining, Move, Sending}
use Rattle.group_rules.specs.Places.{Place, Trio, all_of, next_view, nobody, other_storers, others, with_at}
use Rattle.group_rules.specs.State.{Chose, Collects, Duty, Form, Invite, Join, Message, NoDuty, Plan, Report, Server}

abbrev pub to_each : {E : Type 0} → Message E → List Place → List (Move E)
to_each m [] = []
to_each m (p ∷ ps) = Sending p m ∷ to_each m ps

-- Suspicion: the server promises the next view of its own, has its own join, and invites the other two. At the last
-- count nothing happens
abbrev pub suspect : {E : Type 0} → Place → Server E → List (Move E)
suspect q s = if nat_lt (s.promised / 3) limit
    then Joining (next_view s.promised q) (Collects (with_at nobody q (Some (report_of s))))
    ∷ to_each (Invite (next_view s.promised q)) (others q)
    else []

-- it joined this view in this boot, and hasn't accepted it
abbrev pub joined_tests : {E : Type 0} → Server E → ℕ → List Bool
joined_tests s v = (v == s.promised) ∷ is_joining s.mode ∷ []

-- Invite: a server joins a view above its promised one; of the promised one it sends the same Join again while it
-- hasn't accepted it
abbrev pub on_invite : {E : Type 0} → Server E → Place → ℕ → List (Move E)
on_invite s from v =
    if nat_lt s.promised v then Joining v NoDuty ∷ Sending from (Join v (report_of s)) ∷ []
    else (if all_of (joined_tests s v) then Sending from (Join v s.report) ∷ [] else [])

-- The first joins that allow a choice form the view: Forms go to the other storers, and then the coordinator takes
-- its own part
abbrev pub chosen_moves : {E : Type 0} → Place → Server E → Trio (Option Report) → Option Plan → List (Move E)
chosen_moves q s reports None = Collecting reports ∷ []
chosen_moves q s reports (Some plan) = Collecting reports ∷ Choosing plan (greatest reports)
    ∷ (to_each (Form s.promised plan) (other_storers q plan.storers)
    ++ form_moves q (record s { duty = Chose s.promised plan }) plan)

-- Join: taken by a coordinator that still collects the joins of this view
abbrev pub on_join : {E : Type 0} → Place → Server E → Place → ℕ → Report → Duty → List (Move E)
on_join q s from v t NoDuty = []
on_join q s from v t (Chose w plan) = []
on_join q s from v t (Collects reports) =
    if v == s.promised
    then chosen_moves q s (with_at reports from (Some t)) (choose (with_at reports from (Some t)))
    else []
