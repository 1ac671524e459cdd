-- Values that have numbers.
use Rattle.std.specs.Prelude.{ℕ, ◌==◌, List, find, Option}

-- the one of these values that has this number
abbrev pub value_with_number : {A : Type 0} → (A → ℕ) → List A → ℕ → Option A
value_with_number number all n = find (λ x. number x == n) all
