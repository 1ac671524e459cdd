-- THE NAMES OF A PATH.
use Rattle.std.specs.Prelude.{◌≢◌, ℕ, ◌==◌, ◌<◌, Bool, true, false, List, [], ◌∷◌, All, filter, flat_map, length}
use Rattle.std.specs.List.{slice_split}

-- a slash
abbrev pub is_slash : ℕ → Bool
is_slash byte = byte == 47

abbrev pub is_some_text : List ℕ → Bool
is_some_text [] = false
is_some_text (byte ∷ bytes) = true

-- what stands between slashes, but for what is empty
abbrev pub names_in : List ℕ → List (List ℕ)
names_in path = filter is_some_text (slice_split is_slash path)

-- it begins with a slash
abbrev pub is_absolute : List ℕ → Bool
is_absolute [] = false
is_absolute (byte ∷ bytes) = is_slash byte

-- some bytes, none of them a slash
abbrev pub IsName : List ℕ → Type 0
IsName name = (0 < length name) × All (λ byte. byte ≢ 47) name

-- the path of names from the root on: each behind a slash
abbrev pub path_of : List (List ℕ) → List ℕ
path_of names = flat_map (λ name. 47 ∷ name) names
