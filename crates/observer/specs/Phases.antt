-- What of a copy is wanted next, by what was shown.
use Rattle.std.specs.Prelude.{ℕ, ◌+◌, ◌==◌, ◌&&◌, ◌||◌, nat_lt, nat_le, Bool, true, false, Option}
use Rattle.std.specs.Prelude.{Some, None, if◌then◌else◌}
use Rattle.harp_types.specs.declared.attr.Kind.{Kind}
use Rattle.harp_types.specs.declared.attr.Kind.TheVariants as kind
use Rattle.file_tree.specs.Tree.{blocks_of}
use Rattle.harp_cells.specs.declared.cell.Cell.{Cell}
use Rattle.harp_cells.specs.declared.cell.Cell.TheVariants as cell
use Rattle.harp_cells.specs.declared.value.Inode.{Inode}
use Rattle.harp_cells.specs.declared.value.Value.{Value}
use Rattle.nfs_calls.specs.TreeCells.{inode_found, totals_found}
use Rattle.observer.specs.declared.phase.Part.{Part}
use Rattle.observer.specs.declared.phase.Part.TheVariants as part
use Rattle.observer.specs.declared.phase.Phase.{Phase}
use Rattle.observer.specs.declared.phase.Phase.TheVariants as phase

-- ---- the order of the cells

-- the objects from a number on
abbrev pub object_from : ℕ → ℕ → Phase
object_from number next = if nat_lt number next then phase.Object number next else phase.Records

-- the parts of an object from one on, of so many, and then the objects behind it
abbrev pub parts_from : Part → ℕ → ℕ → ℕ → ℕ → Phase
parts_from p number next at count =
    if nat_lt at count then phase.Part p number next at count else object_from (number + 1) next

-- a directory has slots, another object blocks
abbrev pub part_of : Kind → Part
part_of kind.Directory = part.Slot
part_of kind.Regular = part.Block
part_of kind.Link = part.Block

abbrev pub parts_in : Kind → Inode → ℕ
parts_in kind.Directory i = i.slots
parts_in kind.Regular i = blocks_of i.size
parts_in kind.Link i = blocks_of i.size

-- what is wanted behind an object: its parts, where it is live
abbrev pub behind_object : ℕ → ℕ → Option Inode → Phase
behind_object number next None = object_from (number + 1) next
behind_object number next (Some i) =
    parts_from (part_of i.kind) number next 0 (parts_in i.kind i)

abbrev pub part_cell : Part → ℕ → ℕ → Cell
part_cell part.Slot number at = cell.Slot number at
part_cell part.Block number at = cell.Block number at

-- the wanted cell
abbrev pub wanted_in : Phase → Option Cell
wanted_in phase.Whole = Some cell.Meta
wanted_in (phase.Object number next) = Some (cell.Object number)
wanted_in (phase.Part p number next at count) = Some (part_cell p number at)
wanted_in phase.Records = None

-- what is wanted behind the wanted cell, which holds this
abbrev pub phase_after : Phase → Option Value → Phase
phase_after phase.Whole v = object_from 1 (totals_found v).next
phase_after (phase.Object number next) v = behind_object number next (inode_found number v)
phase_after (phase.Part p number next at count) v = parts_from p number next (at + 1) count
phase_after phase.Records v = phase.Records

-- nothing was shown
abbrev pub is_first : Phase → Bool
is_first phase.Whole = true
is_first p = false

-- no cell is wanted any more
abbrev pub has_cells : Phase → Bool
has_cells phase.Records = true
has_cells p = false

-- ---- cells that may still be shown

-- the numbers from one on, below the next one
abbrev pub is_within : ℕ → ℕ → ℕ → Bool
is_within from next n = nat_le from n && nat_lt n next

-- objects from a number on, with all their parts
abbrev pub is_of_later : ℕ → ℕ → Cell → Bool
is_of_later from next (cell.Object n) = is_within from next n
is_of_later from next (cell.Block n i) = is_within from next n
is_of_later from next (cell.Slot n i) = is_within from next n
is_of_later from next c = false

-- parts of an object from one on, of so many
abbrev pub is_part_from : Part → ℕ → ℕ → ℕ → Cell → Bool
is_part_from part.Slot number at count (cell.Slot n i) = (n == number) && is_within at count i
is_part_from part.Block number at count (cell.Block n i) = (n == number) && is_within at count i
is_part_from p number at count c = false

-- A CELL MAY STILL BE SHOWN: neither was it shown, nor do the shown totals or a shown object rule
-- it out
abbrev pub is_to_come : Phase → Cell → Bool
is_to_come phase.Whole c = true
is_to_come (phase.Object number next) c = is_of_later number next c
is_to_come (phase.Part p number next at count) c =
    is_part_from p number at count c || is_of_later (number + 1) next c
is_to_come phase.Records c = false
