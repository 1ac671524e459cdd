-- Apply, flush, listing and demotion.
use Rattle.std.specs.Prelude.{ℕ, ◌+◌, not, nat_lt, Bool, List, [], ◌∷◌, min, if◌then◌else◌}
use Rattle.group_rules.specs.Limits.{is_settled}
use Rattle.group_rules.specs.Moves.{Applying, Demoting, Flushing, Move, Saying}
use Rattle.group_rules.specs.Places.{Place, all_of, is_p2}
use Rattle.group_rules.specs.State.{Lists, Server}

-- a settled data server
abbrev pub settled_tests : {E : Type 0} → Place → Server E → List Bool
settled_tests q s = is_settled s.mode ∷ not (is_p2 q) ∷ []

-- Apply: the changes of at most n records after AP, up to CP, go to the disk of a settled data server
abbrev pub apply : {E : Type 0} → Place → Server E → ℕ → List (Move E)
apply q s n = if all_of (settled_tests q s) then Applying (min (s.ap + n) s.cp) ∷ [] else []

abbrev pub flush_tests : {E : Type 0} → Place → Server E → List Bool
flush_tests q s = is_settled s.mode ∷ not (is_p2 q) ∷ nat_lt s.lb s.ap ∷ []

-- Flush: where AP is above LB, the disk is synced, and then the mark has LB = AP
abbrev pub flush : {E : Type 0} → Place → Server E → List (Move E)
flush q s = if all_of (flush_tests q s) then Flushing ∷ [] else []

-- Listing: a settled data server lists the tree at CP
abbrev pub list_tree : {E : Type 0} → Place → Server E → List (Move E)
list_tree q s = if all_of (settled_tests q s) then Saying (Lists s.cp) ∷ [] else []

abbrev pub demote_tests : {E : Type 0} → Place → Server E → ℕ → List Bool
demote_tests q s v = is_p2 q ∷ nat_lt s.accepted v ∷ []

-- Demotion: server 2 heeds a Demote of a view above its accepted one
abbrev pub on_demote : {E : Type 0} → Place → Server E → ℕ → List (Move E)
on_demote q s v = if all_of (demote_tests q s v) then Demoting v ∷ [] else []
