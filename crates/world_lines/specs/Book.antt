-- The book as the world keeps it.
use Rattle.std.specs.Prelude.{ℕ, ◌+◌, List, [], ◌∷◌, ◌++◌, length, nat_le, if◌then◌else◌}
use Rattle.file_tree.specs.Book.{Entry}

-- the calls that were entered, and how many of them are updates
pub record BookValue : Type 0 where
  pub entries : List Entry
  pub updates : ℕ

-- of these updates those whose index is above the number of all that were entered before
unfoldable pub new_updates : ℕ → List Entry → List Entry
new_updates n [] = []
new_updates n (e ∷ es) =
    if nat_le e.index n then new_updates n es else e ∷ new_updates (n + 1) es

abbrev pub with_updates : BookValue → List Entry → BookValue
with_updates b es = record { entries = b.entries ++ es; updates = b.updates + length es }

abbrev pub with_reads : BookValue → List Entry → BookValue
with_reads b es = record b { entries = b.entries ++ es }
