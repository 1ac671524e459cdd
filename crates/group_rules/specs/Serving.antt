-- Serving a fetch.
use Rattle.std.specs.Prelude.{ℕ, ◌+◌, ◌-◌, ◌==◌, nat_le, nat_lt, Bool, List, [], ◌∷◌, ◌++◌, take, drop, if◌then◌else◌}
use Rattle.group_rules.specs.Limits.{give_bytes, is_joining, is_log}
use Rattle.group_rules.specs.Moves.{Move, Sending}
use Rattle.group_rules.specs.Places.{Place, all_of}
use Rattle.group_rules.specs.State.{Give, Server, top}

-- the longest front of `items` whose records take at most `give_bytes` bytes together with those used before;
-- `size before e` is the size of the record of e after the entries `before`
abbrev pub front : {E : Type 0} → (List E → E → ℕ) → List E → ℕ → List E → List E
front size before used [] = []
front size before used (e ∷ es) =
    if nat_le (used + size before e) give_bytes then e ∷ front size (before ++ e ∷ []) (used + size before e) es else []

-- at least one record
abbrev pub one_or_more : {E : Type 0} → (List E → E → ℕ) → List E → List E → List E
one_or_more size before [] = []
one_or_more size before (e ∷ es) = e ∷ front size (before ++ e ∷ []) (size before e) es

-- the asked record is held, and is among the first `last`
abbrev pub held_tests : {E : Type 0} → Server E → ℕ → ℕ → List Bool
held_tests s index last = nat_lt s.base index ∷ nat_le index last ∷ []

-- the records from the one with this index on, up to `last`
abbrev pub asked_for : {E : Type 0} → Server E → ℕ → ℕ → List E
asked_for s index last = take (last - (index - 1)) (drop (index - 1 - s.base) s.items)

-- The records from the asked one up to `last`, as many as the space of a Give holds
abbrev pub gives : {E : Type 0} → (List E → E → ℕ) → List E → Server E → Place → ℕ → ℕ → ℕ → List (Move E)
gives size list s to v index last =
    if all_of (held_tests s index last)
    then Sending to (Give v index (one_or_more size (take (index - 1) list) (asked_for s index last))) ∷ []
    else []

abbrev pub serving_joined : {E : Type 0} → Server E → ℕ → List Bool
serving_joined s v = (v == s.promised) ∷ is_joining s.mode ∷ is_log s.held ∷ []

abbrev pub serving_accepted : {E : Type 0} → Server E → ℕ → List Bool
serving_accepted s v = (v == s.accepted) ∷ is_log s.held ∷ []

-- A server that joined a view in this boot serves it up to its top; one that accepted it in this boot up to the
-- view's start, also after it joined a higher one. `list` is its list of entries
abbrev pub on_fetch : {E : Type 0} → (List E → E → ℕ) → List E → Server E → Place → ℕ → ℕ → List (Move E)
on_fetch size list s from v index =
    if all_of (serving_joined s v) then gives size list s from v index (top s)
    else (if all_of (serving_accepted s v) then gives size list s from v index s.served else [])
