-- The file of the journal: an entry for each sync, one after the other.
use Rattle.std.specs.Prelude.{◌≡◌, ℕ, ◌+◌, ◌-◌, ◌*◌, ◌%◌, ◌<◌, ◌≤◌, ◌^◌, List, ◌++◌, length, take, drop, fold}
use Rattle.harp_base.specs.Fields.{AllFit, Reader, fields_by_tag, many_at, many_bytes, u64_at, u64_bytes}
use Rattle.harp_cells.specs.declared.change.Change.{Change}
use Rattle.harp_cells.specs.CellBytes.{ChangeFits, change_at, change_bytes}

-- a number that tells bytes from others: below a prime, and moved by each change of one byte
unfoldable pub check_sum : List ℕ → ℕ
check_sum bytes = fold (λ s b. (s * 2654435761 + b + 1) % 4294967291) 1 bytes

-- bytes behind their length and their sum
unfoldable pub frame_bytes : List ℕ → List ℕ
frame_bytes bytes = u64_bytes (length bytes) ++ u64_bytes (check_sum bytes) ++ bytes

-- a u64 number of changes, and the changes
unfoldable pub changes_bytes : List Change → List ℕ
changes_bytes changes = u64_bytes (length changes) ++ many_bytes change_bytes changes

unfoldable pub changes_at : Reader (List Change)
changes_at = fields_by_tag u64_at (many_at change_at)

abbrev pub ChangesFit : List Change → Type 0
ChangesFit changes = (length changes < 2 ^ 64) × AllFit ChangeFits changes

-- THE ENTRY of these changes
abbrev pub entry_bytes : List Change → List ℕ
entry_bytes changes = frame_bytes (changes_bytes changes)

-- no whole entry stands at the front of these bytes
abbrev pub IsTorn : List ℕ → Type 0
IsTorn bytes = (inner rest : List ℕ) → length inner < 2 ^ 64 → bytes ≡ frame_bytes inner ++ rest → ⊥

-- an entry begins at a place: its changes' bytes stand between two more places, and then it ends
pub record IsFrame (bytes : List ℕ) (at from end : ℕ) : Type 0 where
  pub parts : drop at bytes ≡ frame_bytes (take (end - from) (drop from bytes)) ++ drop end bytes
  pub forward : at < from
  pub order : from ≤ end
  pub within : end ≤ length bytes
