-- Form, pulling and accepting: how a storer takes its part in a formed view.
use Rattle.std.specs.Prelude.{ℕ, ◌+◌, ◌-◌, ◌||◌, ◌==◌, nat_le, Bool, true, false, List, [], ◌∷◌, ◌++◌, length, take, drop, max, if◌then◌else◌}
use Rattle.group_rules.specs.Effects.{NewLog}
use Rattle.group_rules.specs.Limits.{by_held, is_joins, is_log, is_pulls, limit, room}
use Rattle.group_rules.specs.Moves.{Accepting, Move, Pulling, Sending, Staging}
use Rattle.group_rules.specs.Places.{Pair, Place, all_of, is_in, is_p2, leader, partner, same}
use Rattle.group_rules.specs.State.{Fetch, Follows, Formed, Leads, Plan, Role, Server, top}

-- q goes on with records of its own log: the source, and a held data server
abbrev pub keeps : {E : Type 0} → Place → Server E → Plan → Bool
keeps q s plan = if is_log s.held then (if is_p2 q then same q plan.source else true) else false

-- How many records a storer that isn't the source wants none of: a held data server those up to its CP, another those
-- up to the base
abbrev pub wanted : {E : Type 0} → Place → Server E → Plan → ℕ
wanted q s plan = if keeps q s plan then s.cp else plan.base

abbrev pub source_tests : {E : Type 0} → Server E → Plan → List Bool
source_tests s plan = is_log s.held ∷ (top s == plan.start) ∷ []

-- A plan fits a storer: its numbers stand in their order and within their limits, its start covers the storer's CP,
-- its base is on a data server's disk and not below the base of a log that goes on, and a named source is held with
-- the start as its top
abbrev pub fits_tests : {E : Type 0} → Place → Server E → Plan → List Bool
fits_tests q s plan = is_in plan.storers q ∷ nat_le plan.base plan.start ∷ nat_le plan.cp plan.start
    ∷ nat_le plan.start limit ∷ nat_le plan.start (plan.base + room)
    ∷ nat_le (by_held s.held s.cp s.lb) plan.start
    ∷ (if is_p2 q then true else nat_le plan.base s.lb)
    ∷ (if keeps q s plan then nat_le s.base plan.base else true)
    ∷ (if same q plan.source then all_of (source_tests s plan) else true) ∷ []

abbrev pub fits : {E : Type 0} → Place → Server E → Plan → Bool
fits q s plan = all_of (fits_tests q s plan)

abbrev pub role_of : Pair → Place → Role
role_of pair q = if same q (leader pair) then Leads (partner pair) else Follows (leader pair)

-- What a storer has when it accepts: the kept records and the staged ones, without those up to the view's base. CP is
-- the greatest of its own (LB where it was lost), the base and the plan's. A lost data server has AP = LB, a witness
-- LB = AP = base
abbrev pub adopted : {E : Type 0} → Place → Server E → Plan → List E → NewLog E
adopted q s plan staged = record {
  base = plan.base;
  lb = if is_p2 q then plan.base else s.lb;
  ap = if is_p2 q then plan.base else (if is_log s.held then s.ap else s.lb);
  cp = max (by_held s.held s.cp s.lb) (max plan.base plan.cp);
  items = if same q plan.source then drop (plan.base - s.base) s.items
      else (if keeps q s plan then drop (plan.base - s.base) (take (s.cp - s.base) s.items ++ staged) else staged);
}

-- Accepting; the partner sends Formed with its LB to the leader
abbrev pub accept_moves : {E : Type 0} → Place → Server E → Plan → List E → List (Move E)
accept_moves q s plan staged = Accepting plan (role_of plan.storers q) (adopted q s plan staged)
    ∷ (if same q (partner plan.storers)
    then Sending (leader plan.storers) (Formed s.promised (adopted q s plan staged).lb) ∷ [] else [])

-- The storer's part in its promised view, which it joined in this boot and hasn't accepted: it accepts at once where
-- it is the source or wants nothing, else it begins to pull with a Fetch of the first wanted index
abbrev pub form_moves : {E : Type 0} → Place → Server E → Plan → List (Move E)
form_moves q s plan =
    if all_of (is_joins s.mode ∷ fits q s plan ∷ [])
    then (if same q plan.source || (wanted q s plan == plan.start)
    then accept_moves q s plan []
    else Pulling plan (wanted q s plan) ∷ Sending plan.source (Fetch s.promised (wanted q s plan + 1)) ∷ [])
    else []

-- Form: heeded only of the promised view
abbrev pub on_form : {E : Type 0} → Place → Server E → ℕ → Plan → List (Move E)
on_form q s v plan = if v == s.promised then form_moves q s plan else []

-- a Give begins at the next wanted index
abbrev pub pull_tests : {E : Type 0} → Server E → ℕ → ℕ → List E → List Bool
pull_tests s v index items = is_pulls s.mode ∷ (v == s.promised) ∷ (index == s.wanted_from + length s.staged + 1) ∷ []

-- Pulling: the records of a Give are staged; then the next Fetch, or accepting where nothing more is wanted
abbrev pub on_give : {E : Type 0} → Place → Server E → ℕ → ℕ → List E → List (Move E)
on_give q s v index items =
    if all_of (pull_tests s v index items)
    then (if s.wanted_from + length (s.staged ++ items) == s.plan.start
    then accept_moves q s s.plan (s.staged ++ items)
    else Staging (s.staged ++ items) ∷ Sending s.plan.source (Fetch s.promised (s.wanted_from + length (s.staged
    ++ items) + 1)) ∷ [])
    else []
