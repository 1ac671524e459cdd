-- The slots of a directory that cells hold.
use Rattle.std.specs.Prelude.{◌≡◌, ℕ, Bool, false, ◌==◌, List, length, slice_index_or, Option, Some, None}
use Rattle.std.specs.Prelude.{if◌then◌else◌}
use Rattle.std.specs.Str.{bytes_eq}
use Rattle.file_tree.specs.declared.object.Slot.{Slot}
use Rattle.file_tree.specs.Tree.{Slots}
use Rattle.harp_cells.specs.declared.value.Value.{Value}
use Rattle.harp_cells.specs.declared.value.Value.TheVariants as value
use Rattle.harp_cells.specs.declared.cell.Cell.{Cell}
use Rattle.harp_cells.specs.declared.cell.Cell.TheVariants as cell
use Rattle.harp_cells.specs.declared.change.Change.{Change}
use Rattle.harp_cells.specs.declared.change.Change.TheVariants as change
use Rattle.harp_cells.specs.Effect.{Cells}
use Rattle.harp_cells.specs.CellsOfTree.{slot_value}

-- cells hold the slots of a directory: a free slot, and one at or past the number of slots, is
-- absent
abbrev pub HoldsSlots : Cells → ℕ → Slots → Type 0
HoldsSlots cells dir slots = (slot : ℕ)
    → cells (cell.Slot dir slot) ≡ slot_value (slice_index_or slots slot None)

-- cells that tell what they hold, and hold these slots of a directory, so many of them
pub record TellsSlots (told : Option Cells) (dir many : ℕ) (slots : Slots) : Type 0 where
  pub cells : Cells
  pub are : told ≡ Some cells
  pub holds : HoldsSlots cells dir slots
  pub count : length slots ≡ many

-- cells that tell what they hold, and hold this in a slot
pub record TellsSlot (told : Option Cells) (dir slot : ℕ) (held : Option Slot) : Type 0 where
  pub cells : Cells
  pub are : told ≡ Some cells
  pub holds : cells (cell.Slot dir slot) ≡ slot_value held

-- the slot that a value stands for; a value of another kind of cell is no entry
abbrev pub slot_of : Option Value → Option Slot
slot_of None = None
slot_of (Some (value.Slot object name)) = Some (record { name = name; number = object })
slot_of (Some (value.Meta next used stamp)) = None
slot_of (Some (value.Object inode)) = None
slot_of (Some (value.Unformed inode)) = None
slot_of (Some (value.Block bytes)) = None
slot_of (Some (value.Client number index reply)) = None
slot_of (Some (value.Saved bytes)) = None
slot_of (Some (value.SavedCred bytes)) = None

-- the object that a slot names by a name
abbrev pub object_named : List ℕ → Option Slot → Option ℕ
object_named name None = None
object_named name (Some s) = if bytes_eq s.name name then Some s.number else None

-- the cell of a slot of the directory
abbrev pub is_slot_of : ℕ → Cell → Bool
is_slot_of dir (cell.Slot object slot) = object == dir
is_slot_of dir cell.Meta = false
is_slot_of dir (cell.Object object) = false
is_slot_of dir (cell.Block object block) = false
is_slot_of dir (cell.Client client) = false
is_slot_of dir (cell.Saved place) = false

-- a change of a slot of the directory
abbrev pub changes_slot_of : ℕ → Change → Bool
changes_slot_of dir (change.Put c v) = is_slot_of dir c
changes_slot_of dir (change.Erase c) = is_slot_of dir c
changes_slot_of dir (change.EraseFrom object first) = false
