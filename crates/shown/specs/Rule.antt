-- What a server of the group shows, as far as the numbers of the group tell it.
use Rattle.std.specs.Prelude.{ℕ, ◌-◌, ◌==◌, ◌||◌, nat_le, nat_lt, List, map, take, Option, None, Some, if◌then◌else◌}
use Rattle.event_record.specs.Record.{entry_of}
use Rattle.file_tree.specs.Book.{Entry}
use Rattle.group_rules.specs.Disk.{settled_tests}
use Rattle.group_rules.specs.Limits.{is_log}
use Rattle.group_rules.specs.Places.{Place, all_of}
use Rattle.group_rules.specs.Serving.{asked_for, one_or_more}
use Rattle.group_rules.specs.State.{Group, Server}
use Rattle.group_rules.specs.Step.{list_of}
use Rattle.harp_cells.specs.declared.cell.Cell.{Cell}
use Rattle.shown.specs.declared.shown.Shown.{Shown}
use Rattle.shown.specs.declared.shown.Shown.TheVariants as shown
use Rattle.shown.specs.declared.shown.Want.{Want}
use Rattle.shown.specs.declared.shown.Want.TheVariants as want

-- a cell with CP, the entries of records from an index on, or a base
pub data Outline : Type 0 where
  CellAt : Cell → ℕ → Outline
  EntriesFrom : ℕ → List Entry → Outline
  GoneTo : ℕ → Outline

abbrev pub outline_of : Shown → Outline
outline_of (shown.Cell c v cp) = CellAt c cp
outline_of (shown.Records first records) = EntriesFrom first (map entry_of records)
outline_of (shown.Gone base) = GoneTo base

-- the committed entries that a server shows from an index on: nothing of 0 and above CP, that they
-- are gone up to the base, and else as many as the space of a Give holds, by the sizes of their
-- records
abbrev pub entries_from : (List Entry → Entry → ℕ) → Server Entry → List Entry → ℕ → Option Outline
entries_from size s list first =
    if first == 0 || nat_lt s.cp first then None
    else (if nat_le first s.base then Some (GoneTo s.base)
    else Some (EntriesFrom first (one_or_more size (take (first - 1) list)
    (asked_for s first s.cp))))

-- THE RULE OF SHOWING: a settled data server shows a cell at CP, and a server that holds a log its
-- committed records
abbrev pub shown_by : (List Entry → Entry → ℕ) → Group Entry → Place → Want → Option Outline
shown_by size g q (want.Cell c) = if all_of (settled_tests q (g.server q))
    then Some (CellAt c (g.server q).cp) else None
shown_by size g q (want.Records first) = if is_log (g.server q).held
    then entries_from size (g.server q) (list_of g q) first else None
