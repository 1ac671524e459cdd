-- The records that were answered last, with their answers.
use Rattle.std.specs.Prelude.{ℕ, ◌==◌, Bool, is_some, List, ◌∷◌, ◌++◌, length, min, take, Option, if◌then◌else◌}
use Rattle.std.specs.Hash as fed
use lib.Pointwise.{pointwise}
use Rattle.std.specs.Map.{lookup, remove_entry}

-- records and their answers as they were sent, the latest first
abbrev pub Kept : Type 0
Kept = List (List ℕ × List ℕ)

-- so many are kept
abbrev pub most_kept : ℕ
most_kept = 1024

-- what is hashed of a record: its first 64 bytes, and how many it has
abbrev pub hashed : List ℕ → List (List ℕ)
hashed request =
    fed.slice fed.u8 (take (min (length request) 64) request) ++ fed.usize (length request)

-- these bytes, and no others
abbrev pub is_bytes : List ℕ → List ℕ → Bool
is_bytes = pointwise (λ a b. a == b)

abbrev pub answer_of : List ℕ → Kept → Option (List ℕ)
answer_of request kept = lookup (is_bytes request) kept

-- A RECORD'S ANSWER IS KEPT: it comes first, and the oldest goes where there are too many
abbrev pub with_answer : List ℕ → List ℕ → Kept → Kept
with_answer request answer kept =
    (request, answer) ∷ (if is_some (answer_of request kept)
    then remove_entry (is_bytes request) kept else take 1023 kept)
