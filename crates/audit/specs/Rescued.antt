-- Cells that are well formed one by one, whatever they say together.
use Rattle.std.specs.Prelude.{◌≡◌, ℕ, ◌+◌, ◌*◌, ◌≤◌, length, slice_index_or, Option, Some, None}
use Rattle.harp_types.specs.Limits.{block_size}
use Rattle.harp_types.specs.declared.attr.Kind.TheVariants as kind
use Rattle.file_tree.specs.Sound.{IsSound}
use Rattle.file_tree.specs.Tree.{Tree}
use Rattle.harp_cells.specs.declared.cell.Cell.{Cell}
use Rattle.harp_cells.specs.declared.cell.Cell.TheVariants as cell
use Rattle.harp_cells.specs.declared.value.Inode.{Inode}
use Rattle.harp_cells.specs.declared.value.Value.{Value}
use Rattle.harp_cells.specs.declared.value.Value.TheVariants as value
use Rattle.harp_cells.specs.Effect.{Cells}
use Rattle.audit.specs.Pictures.{IsObjectValue, bytes_read}
use Rattle.audit.specs.Sound.{StandForNamed}

abbrev pub IsMetaValue : Value → Type 0
IsMetaValue (value.Meta next used stamp) = Unit {0}
IsMetaValue (value.Object i) = ⊥
IsMetaValue (value.Unformed i) = ⊥
IsMetaValue (value.Block bytes) = ⊥
IsMetaValue (value.Slot object name) = ⊥
IsMetaValue (value.Client number index reply) = ⊥
IsMetaValue (value.Saved bytes) = ⊥
IsMetaValue (value.SavedCred bytes) = ⊥

abbrev pub IsSlotValue : Value → Type 0
IsSlotValue (value.Slot object name) = Unit {0}
IsSlotValue (value.Meta next used stamp) = ⊥
IsSlotValue (value.Object i) = ⊥
IsSlotValue (value.Unformed i) = ⊥
IsSlotValue (value.Block bytes) = ⊥
IsSlotValue (value.Client number index reply) = ⊥
IsSlotValue (value.Saved bytes) = ⊥
IsSlotValue (value.SavedCred bytes) = ⊥

abbrev pub IsBlockValue : Value → Type 0
IsBlockValue (value.Block bytes) = (1 ≤ length bytes) × (length bytes ≤ block_size)
IsBlockValue (value.Meta next used stamp) = ⊥
IsBlockValue (value.Object i) = ⊥
IsBlockValue (value.Unformed i) = ⊥
IsBlockValue (value.Slot object name) = ⊥
IsBlockValue (value.Client number index reply) = ⊥
IsBlockValue (value.Saved bytes) = ⊥
IsBlockValue (value.SavedCred bytes) = ⊥

-- a value of its cell's own kind; those of clients and of saved logs are left aside
abbrev pub IsOwnKind : Cell → Value → Type 0
IsOwnKind cell.Meta v = IsMetaValue v
IsOwnKind (cell.Object number) v = IsObjectValue v
IsOwnKind (cell.Block number block) v = IsBlockValue v
IsOwnKind (cell.Slot number slot) v = IsSlotValue v
IsOwnKind (cell.Client client) v = Unit {0}
IsOwnKind (cell.Saved at) v = Unit {0}

abbrev pub IsOwn : Cell → Option Value → Type 0
IsOwn c None = Unit {0}
IsOwn c (Some v) = IsOwnKind c v

-- each cell is absent or holds a value of its own kind, and no block of a file has a byte other
-- than zero past the file's end
pub record AreWell (cells : Cells) : Type 0 where
  pub kinds : (c : Cell) → IsOwn c (cells c)
  pub ends : (number block k : ℕ) (i : Inode)
      → cells (cell.Object number) ≡ Some (value.Object i) → i.kind ≡ kind.Regular
      → i.size ≤ block_size * block + k
      → slice_index_or (bytes_read (cells (cell.Block number block))) k 0 ≡ 0

-- THE TREE THAT THEY STAND FOR
pub record StandForOne (cells : Cells) : Type 0 where
  pub tree : Tree
  pub stamp : ℕ
  pub stand : StandForNamed cells tree stamp
  pub sound : IsSound tree
