-- Whether a running server is told to stop: what it was answered when it asked.
use Rattle.std.specs.Prelude.{◌≡◌, ℕ, ◌+◌, Bool, true, false, List, [], ◌∷◌, ◌++◌, replicate, Option, None, Some}

-- these answers come last, where answers are told; who tells none any more never tells again
abbrev pub Answered : List Bool → Option (List Bool) → Option (List Bool) → Type 0
Answered answers told None = Unit {0}
Answered answers None (Some new) = ⊥
Answered answers (Some old) (Some new) = new ≡ old ++ answers

-- so often it was answered no
abbrev pub noes : ℕ → List Bool
noes n = replicate n false

abbrev pub IsToldBy : (stopped : Bool) → (ticks turns most : ℕ) → Option (List Bool)
    → Option (List Bool) → Type 0
IsToldBy true ticks turns most old new =
    (n : ℕ) × (ticks ≡ n + 1) × Answered (noes n ++ true ∷ []) old new
IsToldBy false ticks turns most old new = (turns ≡ most) × Answered (noes ticks) old new

-- WHAT A SERVER WAS TOLD that ticked so often, in so many turns: it asked at each tick, and went on
-- after each no. Either it stopped at the first yes, or it took all its turns
abbrev pub IsTold : (ticks turns most : ℕ) → Option (List Bool) → Option (List Bool) → Type 0
IsTold ticks turns most old new = (stopped : Bool) × IsToldBy stopped ticks turns most old new
