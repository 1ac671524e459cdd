-- Messages that no server which keeps the rules sends.
use Rattle.std.specs.Prelude.{ℕ, ◌+◌, ◌-◌, ◌==◌, not, nat_lt, nat_le, Bool, true, false, List, [], ◌∷◌, length, if◌then◌else◌}
use Rattle.file_tree.specs.Book.{Entry}
use Rattle.group_rules.specs.Effects.{taken}
use Rattle.group_rules.specs.Form.{fits}
use Rattle.group_rules.specs.Limits.{is_joins, is_pulls, room}
use Rattle.group_rules.specs.Places.{Place, all_of, coordinator, leader, partner, same}
use Rattle.group_rules.specs.Replicate.{is_in_view}
use Rattle.group_rules.specs.State.{Ack, Beat, Demote, Event, Fetch, Form, Formed, Give, Invite, Join, Message, Report, Server, top}

-- a Join's numbers stand in their order
abbrev pub order_tests : Report → List Bool
order_tests t = nat_le t.base t.lb ∷ nat_le t.lb t.cp ∷ nat_le t.cp t.top ∷ []

-- the entries have consecutive indices from this one on
abbrev pub follow : ℕ → List Entry → Bool
follow index [] = true
follow index (e ∷ es) = if e.index == index then follow (index + 1) es else false

-- of the source, and within the view's start
abbrev pub given_tests : Server Entry → Place → ℕ → List Entry → List Bool
given_tests s from index items = same from s.plan.source ∷ nat_le (index + length items) (s.plan.start + 1) ∷ []

-- of the partner, with an LB within the view's start
abbrev pub heard_tests : Server Entry → Place → ℕ → List Bool
heard_tests s from lb = same from (partner s.plan.storers) ∷ nat_le lb s.plan.start ∷ []

-- of the leader, with a base that is on the disk
abbrev pub led_tests : Server Entry → Place → ℕ → List Bool
led_tests s from base = same from (leader s.plan.storers) ∷ nat_le base s.lb ∷ []

-- there is room for the next record after the drop
abbrev pub room_tests : Server Entry → ℕ → List Entry → List Bool
room_tests s base items = nat_le (length items - (base - s.base)) room ∷ []

-- of the partner, with numbers that it can have
abbrev pub told_tests : Server Entry → Place → ℕ → ℕ → List Bool
told_tests s from t lb = same from (partner s.plan.storers) ∷ nat_le t (top s) ∷ nat_le lb t ∷ []

-- What a message must meet. Tests that compare with the receiver's view or log are made only where it is in that
-- view: active in it, or, for a Form and a Give, about to accept it
abbrev pub proper : Place → Server Entry → Place → Message Entry → List Bool
proper q s from (Invite v) = same from (coordinator v) ∷ []
proper q s from (Join v t) = order_tests t
proper q s from (Form v plan) = same from (coordinator v) ∷ (if all_of ((v == s.promised) ∷ is_joins s.mode ∷ [])
    then fits q s plan else true) ∷ []
proper q s from (Fetch v index) = []
proper q s from (Give v index items) = nat_lt 0 (length items) ∷ follow index items
    ∷ (if all_of ((v == s.promised) ∷ is_pulls s.mode ∷ []) then all_of (given_tests s from index items) else true) ∷ []
proper q s from (Formed v lb) = (if is_in_view s v then all_of (heard_tests s from lb) else true) ∷ []
proper q s from (Event v index cp base e) = (if is_in_view s v then all_of (led_tests s from base) else true)
    ∷ (if is_in_view s v then all_of (room_tests s base (taken s index e)) else true) ∷ []
proper q s from (Beat v cp base) = (if is_in_view s v then all_of (led_tests s from base) else true) ∷ []
proper q s from (Ack v t lb until) = (if is_in_view s v then all_of (told_tests s from t lb) else true) ∷ []
proper q s from (Demote v) = []

-- A misfit, which is ignored whatever the rules say: a server's own message, or one that isn't proper
abbrev pub misfits : Place → Server Entry → Place → Message Entry → Bool
misfits q s from m = not (all_of (not (same from q) ∷ proper q s from m))
