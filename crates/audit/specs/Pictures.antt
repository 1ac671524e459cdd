-- What is read in the cells of a stored tree, and the shape of what was read.
use Rattle.std.specs.Prelude.{◌≡◌, ℕ, ◌+◌, ◌-◌, ◌<◌, ◌≤◌, ◌^◌, ◌==◌, Bool, true, false, List, []}
use Rattle.std.specs.Prelude.{◌∷◌, length, map, Option, Some, None, if◌then◌else◌}
use Rattle.std.specs.List.{AllByRecursion, flat_map, range_with_len}
use Rattle.harp_types.specs.declared.attr.Kind.{Kind}
use Rattle.harp_types.specs.declared.attr.Kind.TheVariants as kind
use Rattle.harp_cells.specs.declared.value.Value.{Value}
use Rattle.harp_cells.specs.declared.value.Value.TheVariants as value
use Rattle.harp_cells.specs.declared.cell.Cell.TheVariants as cell
use Rattle.harp_cells.specs.CellsOfTree.{first_root}
use Rattle.harp_cells.specs.Effect.{Cells}
use Rattle.audit.specs.declared.attributes.Attributes.{Attributes}
use Rattle.audit.specs.declared.picture.Portrait.{Portrait}
use Rattle.audit.specs.declared.picture.Picture.{Picture}

-- ---- what stands in a value

abbrev pub no_attributes : Attributes
no_attributes =
    record { kind = None; mode = 0; links = 0; parent = 0; size = 0; slots = 0 }

-- the attributes in an object's value
abbrev pub attributes : Value → Attributes
attributes (value.Object i) =
    record {
      kind = Some i.kind;
      mode = i.mode;
      links = i.links;
      parent = i.parent;
      size = i.size;
      slots = i.slots;
    }
attributes (value.Unformed i) =
    record {
      kind = None;
      mode = i.mode;
      links = i.links;
      parent = i.parent;
      size = i.size;
      slots = i.slots;
    }
attributes (value.Meta next used stamp) = no_attributes
attributes (value.Block bytes) = no_attributes
attributes (value.Slot object name) = no_attributes
attributes (value.Client number index reply) = no_attributes
attributes (value.Saved bytes) = no_attributes
attributes (value.SavedCred bytes) = no_attributes

abbrev pub is_directory_kind : Option Kind → Bool
is_directory_kind None = false
is_directory_kind (Some kind.Directory) = true
is_directory_kind (Some kind.Regular) = false
is_directory_kind (Some kind.Link) = false

abbrev pub is_link_kind : Option Kind → Bool
is_link_kind None = false
is_link_kind (Some kind.Directory) = false
is_link_kind (Some kind.Regular) = false
is_link_kind (Some kind.Link) = true

-- ---- what is read in a cell. A value of another kind than its cell's counts as absent

-- the number of the next object, and the used blocks
abbrev pub totals_of_value : Value → ℕ × ℕ
totals_of_value (value.Meta next used stamp) = (next, used)
totals_of_value (value.Object i) = (2, 0)
totals_of_value (value.Unformed i) = (2, 0)
totals_of_value (value.Block bytes) = (2, 0)
totals_of_value (value.Slot object name) = (2, 0)
totals_of_value (value.Client number index reply) = (2, 0)
totals_of_value (value.Saved bytes) = (2, 0)
totals_of_value (value.SavedCred bytes) = (2, 0)

abbrev pub totals_read : Option Value → ℕ × ℕ
totals_read None = (2, 0)
totals_read (Some v) = totals_of_value v

-- the value of an object that is absent: only the root may be
abbrev pub absent_object : ℕ → Option Value
absent_object number = if number == 1 then Some first_root else None

abbrev pub object_of_value : ℕ → Value → Option Value
object_of_value number (value.Object i) = Some (value.Object i)
object_of_value number (value.Unformed i) = Some (value.Unformed i)
object_of_value number (value.Meta next used stamp) = absent_object number
object_of_value number (value.Block bytes) = absent_object number
object_of_value number (value.Slot object name) = absent_object number
object_of_value number (value.Client n index reply) = absent_object number
object_of_value number (value.Saved bytes) = absent_object number
object_of_value number (value.SavedCred bytes) = absent_object number

-- the value of the object of a number
abbrev pub object_read : ℕ → Option Value → Option Value
object_read number None = absent_object number
object_read number (Some v) = object_of_value number v

abbrev pub slot_of_value : Value → Option Value
slot_of_value (value.Slot object name) = Some (value.Slot object name)
slot_of_value (value.Meta next used stamp) = None
slot_of_value (value.Object i) = None
slot_of_value (value.Unformed i) = None
slot_of_value (value.Block bytes) = None
slot_of_value (value.Client number index reply) = None
slot_of_value (value.Saved bytes) = None
slot_of_value (value.SavedCred bytes) = None

-- the value of a slot
abbrev pub slot_read : Option Value → Option Value
slot_read None = None
slot_read (Some v) = slot_of_value v

abbrev pub bytes_of_value : Value → List ℕ
bytes_of_value (value.Block bytes) = bytes
bytes_of_value (value.Meta next used stamp) = []
bytes_of_value (value.Object i) = []
bytes_of_value (value.Unformed i) = []
bytes_of_value (value.Slot object name) = []
bytes_of_value (value.Client number index reply) = []
bytes_of_value (value.Saved bytes) = []
bytes_of_value (value.SavedCred bytes) = []

-- the bytes of a block
abbrev pub bytes_read : Option Value → List ℕ
bytes_read None = []
bytes_read (Some v) = bytes_of_value v

-- ---- the picture of cells

-- how many bytes the text of a link has
abbrev pub text_read : Cells → ℕ → Value → ℕ
text_read cells number v =
    if is_link_kind (attributes v).kind then length (bytes_read (cells (cell.Block number 0)))
    else 0

-- what so many slots hold
abbrev pub slots_by : Cells → ℕ → ℕ → List (Option Value)
slots_by cells number count =
    map (λ i. slot_read (cells (cell.Slot number i))) (range_with_len 0 count)

-- the object of a number, with its slots
abbrev pub portrait_by : Cells → ℕ → Value → Portrait
portrait_by cells number v =
    record {
      number = number;
      object = v;
      slots = slots_by cells number (attributes v).slots;
      text = text_read cells number v;
    }

abbrev pub portrait_of_some : Cells → ℕ → Option Value → List Portrait
portrait_of_some cells number None = []
portrait_of_some cells number (Some v) = portrait_by cells number v ∷ []

-- the object of a number, where one is there
abbrev pub portraits_at : Cells → ℕ → List Portrait
portraits_at cells number =
    portrait_of_some cells number (object_read number (cells (cell.Object number)))

-- those of the numbers below the next one
abbrev pub portraits_below : Cells → ℕ → List Portrait
portraits_below cells next = flat_map (portraits_at cells) (range_with_len 1 (next - 1))

-- THE PICTURE OF CELLS
abbrev pub picture_of : Cells → Picture
picture_of cells =
    record {
      next = (totals_read (cells cell.Meta)).0;
      used = (totals_read (cells cell.Meta)).1;
      objects = portraits_below cells (totals_read (cells cell.Meta)).0;
    }

-- ---- the shape of pictures

abbrev pub IsObjectValue : Value → Type 0
IsObjectValue (value.Object i) = Unit {0}
IsObjectValue (value.Unformed i) = Unit {0}
IsObjectValue (value.Meta next used stamp) = ⊥
IsObjectValue (value.Block bytes) = ⊥
IsObjectValue (value.Slot object name) = ⊥
IsObjectValue (value.Client number index reply) = ⊥
IsObjectValue (value.Saved bytes) = ⊥
IsObjectValue (value.SavedCred bytes) = ⊥

-- a slot is free, or holds a slot's value
abbrev pub IsSlot : Option Value → Type 0
IsSlot v = slot_read v ≡ v

-- so many slots
abbrev pub AreSlots : ℕ → List (Option Value) → Type 0
AreSlots count slots = (length slots ≡ count) × AllByRecursion IsSlot slots

pub record IsPortrait (x : Portrait) : Type 0 where
  pub object : IsObjectValue x.object
  pub count : length x.slots ≡ (attributes x.object).slots
  pub slots : AllByRecursion IsSlot x.slots
  pub text : is_link_kind (attributes x.object).kind ≡ false → x.text ≡ 0

-- objects with ascending numbers, from one on and below another
abbrev pub AreInOrder : ℕ → ℕ → List Portrait → Type 0
AreInOrder from next [] = Unit {0}
AreInOrder from next (x ∷ xs) =
    (from ≤ x.number) × (x.number < next) × IsPortrait x × AreInOrder (x.number + 1) next xs

-- A PICTURE'S SHAPE, which that of any cells has
pub record IsShaped (p : Picture) : Type 0 where
  pub next : p.next < 2 ^ 32
  pub objects : AreInOrder 1 p.next p.objects
