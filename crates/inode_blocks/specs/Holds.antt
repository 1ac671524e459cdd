-- The bytes of an object in the cells of its blocks.
use Rattle.std.specs.Prelude.{◌≡◌, ℕ, ◌+◌, ◌*◌, ◌<◌, ◌≤◌, List, [], length, take, slice_index_or, Option, Some, None}
use Rattle.harp_types.specs.Limits.{block_size}
use Rattle.harp_cells.specs.declared.cell.Cell.TheVariants as cell
use Rattle.harp_cells.specs.declared.value.Value.{Value}
use Rattle.harp_cells.specs.declared.value.Value.TheVariants as value
use Rattle.harp_cells.specs.Effect.{Cells}

-- the bytes that stand in a block, of which there are at most those of a block
abbrev pub bytes_within : Value → List ℕ
bytes_within (value.Block bytes) = take block_size bytes
bytes_within (value.Meta next used stamp) = []
bytes_within (value.Object inode) = []
bytes_within (value.Unformed inode) = []
bytes_within (value.Slot object name) = []
bytes_within (value.Client number index reply) = []
bytes_within (value.Saved bytes) = []
bytes_within (value.SavedCred bytes) = []

-- none where the cell is absent
abbrev pub stored : Option Value → List ℕ
stored None = []
stored (Some v) = bytes_within v

abbrev pub IsBlockValue : Value → Type 0
IsBlockValue (value.Block bytes) = length bytes ≤ block_size
IsBlockValue (value.Meta next used stamp) = ⊥
IsBlockValue (value.Object inode) = ⊥
IsBlockValue (value.Unformed inode) = ⊥
IsBlockValue (value.Slot object name) = ⊥
IsBlockValue (value.Client number index reply) = ⊥
IsBlockValue (value.Saved bytes) = ⊥
IsBlockValue (value.SavedCred bytes) = ⊥

-- absent, or a block
abbrev pub IsBlock : Option Value → Type 0
IsBlock None = Unit {0}
IsBlock (Some v) = IsBlockValue v

-- the blocks of an object hold these bytes: each byte stands at its place in its block; those that
-- are missing at the end of a block or in an absent one, and those past the end of the bytes, are
-- zeros
pub record HoldsBytes (cells : Cells) (object : ℕ) (bytes : List ℕ) : Type 0 where
  pub blocks : (block : ℕ) → IsBlock (cells (cell.Block object block))
  pub byte : (block at : ℕ) → at < block_size
      → slice_index_or (stored (cells (cell.Block object block))) at 0
      ≡ slice_index_or bytes (block_size * block + at) 0

-- each block at or past this size is absent
abbrev pub EndsAt : Cells → ℕ → ℕ → Type 0
EndsAt cells object size = (block : ℕ) → size ≤ block_size * block
    → cells (cell.Block object block) ≡ None
