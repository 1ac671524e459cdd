-- The stamp of the last update, and a new record.
use Rattle.std.specs.Prelude.{ℕ, ◌+◌, List, length, max, Option, None, Some}
use Rattle.harp_types.specs.declared.call.Call.{Call}
use Rattle.harp_types.specs.declared.cred.Cred.{Cred}
use Rattle.event_record.specs.declared.record.RecordFields.{RecordFields as Record}
use Rattle.file_tree.specs.Book.{Entry, last_stamp}
use Rattle.harp_types.specs.View.{View}
use Rattle.harp_cells.specs.declared.value.Value.{Value}
use Rattle.harp_cells.specs.declared.value.Value.TheVariants as value
use Rattle.tree_log.specs.Records.{entry_after, record_of}

-- what is read in the cell of the whole tree
abbrev pub stamp_found : Option Value → ℕ
stamp_found None = 0
stamp_found (Some (value.Meta next used stamp)) = stamp
stamp_found (Some (value.Object inode)) = 0
stamp_found (Some (value.Unformed inode)) = 0
stamp_found (Some (value.Block bytes)) = 0
stamp_found (Some (value.Slot object name)) = 0
stamp_found (Some (value.Client number index reply)) = 0
stamp_found (Some (value.Saved bytes)) = 0
stamp_found (Some (value.SavedCred bytes)) = 0

-- the entry of a new update at this clock, after these
abbrev pub next_entry : ℕ → List Entry → ℕ → ℕ → Cred → Call → Entry
next_entry now list client number cred call =
    entry_after list (length list + 1) client number cred call (max now (last_stamp list))

-- THE RECORD of a new update
abbrev pub next_record : View → ℕ → List Entry → ℕ → ℕ → Cred → Call → Record
next_record stamped now list client number cred call =
    record_of stamped list (next_entry now list client number cred call)
