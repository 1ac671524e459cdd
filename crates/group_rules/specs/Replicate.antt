-- Event and beat, and acknowledgement.
use Rattle.std.specs.Prelude.{ℕ, ◌+◌, ◌-◌, ◌==◌, nat_lt, Bool, List, [], ◌∷◌, length, take, drop, if◌then◌else◌}
use Rattle.group_rules.specs.Limits.{is_active, is_open}
use Rattle.group_rules.specs.Moves.{Committing, Heeding, Move, Noting, Saying, Sending}
use Rattle.group_rules.specs.Places.{Place, all_of, partner, same}
use Rattle.group_rules.specs.State.{Ack, Answers, Server}

-- active in this view
abbrev pub in_view_tests : {E : Type 0} → Server E → ℕ → List Bool
in_view_tests s v = is_active s.mode ∷ (v == s.accepted) ∷ []

abbrev pub is_in_view : {E : Type 0} → Server E → ℕ → Bool
is_in_view s v = all_of (in_view_tests s v)

-- Event and Beat: heeded by the active partner of that view. It takes the next record, drops to the base, raises its
-- CP, and acknowledges with its top, LB and a promise that lasts for the delta of its boot
abbrev pub on_event : {E : Type 0} → Place → ℕ → Server E → Place → ℕ → ℕ → ℕ → List E → List (Move E)
on_event q clock s from v cp base items =
    if all_of (is_in_view s v ∷ same q (partner s.plan.storers) ∷ [])
    then Heeding items cp base ∷ Sending from (Ack v (s.base + length items) s.lb (clock + s.delta)) ∷ []
    else []

-- the answers of these entries, the first with n entries before it
abbrev pub answers : {E : Type 0} → ℕ → List E → List (Move E)
answers n [] = []
answers n (e ∷ es) = Saying (Answers (n + 1) e) ∷ answers (n + 1) es

abbrev pub ack_tests : {E : Type 0} → Server E → ℕ → List Bool
ack_tests s v = is_open s.mode ∷ (v == s.accepted) ∷ []

-- Acknowledgement: heeded by the open leader of that view. It keeps the greatest numbers that it was told, and each
-- record up to the acknowledged top is committed and answered in this step, in order
abbrev pub on_ack : {E : Type 0} → Server E → ℕ → ℕ → ℕ → ℕ → List (Move E)
on_ack s v t lb until =
    if all_of (ack_tests s v)
    then Noting t lb until ∷ (if nat_lt s.cp t then Committing t
    ∷ answers s.cp (take (t - s.cp) (drop (s.cp - s.base) s.items)) else [])
    else []
