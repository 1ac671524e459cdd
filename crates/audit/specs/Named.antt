-- The cells that a picture names.
use Rattle.std.specs.Prelude.{ℕ, ◌*◌, ◌&&◌, ◌==◌, not, nat_lt, Bool, true, false, List}
use Rattle.std.specs.Prelude.{Option, Some, None, if◌then◌else◌}
use Rattle.file_tree.specs.Tries.{is_some}
use Rattle.harp_types.specs.Limits.{block_size}
use Rattle.harp_cells.specs.declared.cell.Cell.{Cell}
use Rattle.harp_cells.specs.declared.cell.Cell.TheVariants as cell
use Rattle.harp_cells.specs.declared.value.Value.{Value}
use Rattle.harp_cells.specs.declared.value.Value.TheVariants as value
use Rattle.harp_cells.specs.Effect.{Cells, key}
use Rattle.audit.specs.declared.picture.Portrait.{Portrait}
use Rattle.audit.specs.Flaws.{is_directory, portrait_at}
use Rattle.audit.specs.Pictures.{attributes}

-- the kind of the cells that have such values
abbrev pub kind_of_value : Value → ℕ
kind_of_value (value.Meta next used stamp) = 1
kind_of_value (value.Object i) = 2
kind_of_value (value.Unformed i) = 2
kind_of_value (value.Block bytes) = 3
kind_of_value (value.Slot object name) = 4
kind_of_value (value.Client number index reply) = 5
kind_of_value (value.Saved bytes) = 6
kind_of_value (value.SavedCred bytes) = 6

-- a cell has a value, of its own kind
abbrev pub is_own : Cell → Option Value → Bool
is_own c None = false
is_own c (Some v) = kind_of_value v == (key c).0

-- an object has a slot
abbrev pub has_slot : ℕ → Option Portrait → Bool
has_slot slot None = false
has_slot slot (Some x) = nat_lt slot (attributes x.object).slots

-- a file or a link has bytes in a block
abbrev pub has_block : ℕ → Option Portrait → Bool
has_block block None = false
has_block block (Some x) =
    not (is_directory x) && nat_lt (block * block_size) (attributes x.object).size

-- the whole tree or one of the objects has a cell
abbrev pub names : List Portrait → Cell → Bool
names objects cell.Meta = true
names objects (cell.Object number) = is_some (portrait_at objects number)
names objects (cell.Block number block) = has_block block (portrait_at objects number)
names objects (cell.Slot number slot) = has_slot slot (portrait_at objects number)
names objects (cell.Client client) = false
names objects (cell.Saved at) = false

-- what a cell of its own kind holds
abbrev pub own_value : Cell → Option Value → Option Value
own_value c held = if is_own c held then held else None

-- THE CELLS THAT THESE OBJECTS NAME: all others are absent
abbrev pub named_cells : List Portrait → Cells → Cells
named_cells objects cells c = if names objects c then own_value c (cells c) else None

-- the same, where the cells are told
abbrev pub named_told : List Portrait → Option Cells → Option Cells
named_told objects None = None
named_told objects (Some cells) = Some (named_cells objects cells)
