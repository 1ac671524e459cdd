-- Ascending indices.
use Rattle.std.specs.Prelude.{◌≡◌, ℕ, ◌<◌, Bool, true, ◌==◌, List, [], ◌∷◌, ⊤}
use Rattle.std.specs.List.{list_any}

-- an index is one of them
abbrev pub is_among : List ℕ → ℕ → Bool
is_among indices i = list_any (λ j. i == j) indices

-- each is below those behind it
unfoldable pub Ascend : List ℕ → Type 0
Ascend [] = ⊤
Ascend (index ∷ indices) = ((i : ℕ) → is_among indices i ≡ true → index < i) × Ascend indices
