-- A server's mark on its disk, and why a call of the store gives nothing.
use Rattle.std.specs.Prelude.{◌≡◌, ◌⊎◌, nat_lt, Bool, true, false, List, [], ◌∷◌, Option, None, if◌then◌else◌}
use Rattle.file_tree.specs.Book.{Entry}
use Rattle.group_rules.specs.Moves.{Accepting, Demoting, Joining, Move}
use Rattle.group_rules.specs.Names.{id_of, number_of_view, view_of}
use Rattle.group_rules.specs.State.{Follows, Leads, Outside, Role}
use Rattle.harp_types.specs.View.{View}
use Rattle.harp_types.specs.declared.state.Role.{Role as Part}
use Rattle.harp_types.specs.declared.state.Role.TheVariants as part
use Rattle.harp_cells.specs.declared.reads.CellFault.{CellFault}
use Rattle.harp_cells.specs.declared.reads.CellFault.TheVariants as cell
use Rattle.harp_store.specs.Disk.{Moments, after_step, with_mark}
use Rattle.harp_store.specs.Mark.{MarkFields}
use Rattle.harp_store.specs.declared.store.StoreFault.{StoreFault}
use Rattle.harp_store.specs.declared.store.StoreFault.TheVariants as store
use Rattle.node.specs.declared.fault.NodeFault.{NodeFault}
use Rattle.node.specs.declared.fault.NodeFault.TheVariants.{NoMemory, StoreFailed}

abbrev pub fault_of : StoreFault → NodeFault
fault_of store.Failed = StoreFailed
fault_of store.NoMemory = NoMemory

-- and of a call that reads cells
abbrev pub fault_read : CellFault → NodeFault
fault_read cell.StoreFailed = StoreFailed
fault_read cell.NoMemory = NoMemory

-- the mark that promises another view
abbrev pub promising : MarkFields → View → MarkFields
promising mark view = record mark { promised = view }

-- a role as a mark has it
abbrev pub part_of : Role → Part
part_of (Leads q) = part.Leads (id_of q)
part_of (Follows q) = part.Follows (id_of q)
part_of Outside = part.Outside

-- the mark after a move that writes it whole: a join promises the view, accepting gives it a role
-- and an LB and no saved log, and a demotion leaves it outside
abbrev pub marked : MarkFields → Move Entry → MarkFields
marked mark (Joining v duty) = promising mark (view_of v)
marked mark (Accepting plan role n) = record mark {
  accepted = mark.promised;
  role = part_of role;
  lb = n.lb;
  saved = None;
}
marked mark (Demoting v) = record mark {
  promised = if nat_lt v (number_of_view mark.promised) then mark.promised else view_of v;
  accepted = view_of v;
  role = part.Outside;
  saved = None;
}
marked mark m = mark

-- the mark after moves, one after the other
abbrev pub marked_by : MarkFields → List (Move Entry) → MarkFields
marked_by mark [] = mark
marked_by mark (m ∷ ms) = marked_by (marked mark m) ms

-- ---- what moves make of a disk

-- a move writes the mark
abbrev pub writes_mark : Move Entry → Bool
writes_mark (Joining v duty) = true
writes_mark (Accepting plan role n) = true
writes_mark (Demoting v) = true
writes_mark m = false

abbrev pub write_mark : List (Move Entry) → Bool
write_mark [] = false
write_mark (m ∷ ms) = if writes_mark m then true else write_mark ms

-- the disk after moves of which at most one writes the mark, as this one
abbrev pub disk_after : List (Move Entry) → MarkFields → Option Moments → Option Moments
disk_after ms mark told = if write_mark ms then after_step (with_mark mark) told else told

-- moves that failed leave the disk as it was, or with this mark, where one of them writes it
abbrev pub MayLeave : List (Move Entry) → MarkFields → (old new : Option Moments) → Type 0
MayLeave ms mark old new = (new ≡ old)
    ⊎ ((write_mark ms ≡ true) × (new ≡ after_step (with_mark mark) old))
