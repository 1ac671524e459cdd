-- The calls of a step that change its server's disk.
use Rattle.std.specs.Prelude.{ℕ, ◌+◌, ◌%◌, Bool, List, [], ◌∷◌, ◌++◌, length, map, take, if◌then◌else◌}
use Rattle.file_tree.specs.Book.{Entry}
use Rattle.harp_cells.specs.declared.cell.Cell.TheVariants as cell
use Rattle.harp_cells.specs.declared.value.Value.TheVariants as value
use Rattle.harp_cells.specs.declared.change.Change.{Change}
use Rattle.harp_cells.specs.declared.change.Change.TheVariants as change
use Rattle.fuzzy_cells.specs.History.{between, cells_at}
use Rattle.fuzzy_cells.specs.Disk.{Disk, reads, synced_to, with_changes}
use Rattle.record_changes.specs.Records.{history_of, record_changes}
use Rattle.group_rules.specs.Moves.{Accepting, Applying, Demoting, Flushing, Joining, Move, Saving, act}
use Rattle.group_rules.specs.Places.{Place}
use Rattle.group_rules.specs.State.{Message, Server}
use Rattle.group_rules.specs.Step.{saves}
use Rattle.group_trace.specs.Calls.{CallKind, Changes, Marks, Syncs}
use Rattle.group_trace.specs.Scene.{Measures}

-- How records and messages are spelled: the bytes of the record of an entry after the entries
-- before it, how many bytes a message of a server with this list has, and which bytes are a
-- message
pub record Spellings : Type 0 where
  pub record_bytes : List Entry → Entry → List ℕ
  pub message_size : List Entry → Message Entry → ℕ
  pub is_message : List ℕ → Bool

-- the changes of the record of an entry after the entries before it
abbrev pub changes_after : List Entry → Entry → List Change
changes_after earlier e = record_changes (cells_at (history_of earlier) (length earlier)) earlier e

-- what a run takes from them: a record has as many changes as its entry's record changes cells
abbrev pub measures_of : Spellings → Measures
measures_of f = record {
  size = λ before e. length (f.record_bytes before e);
  changes = λ before e. length (changes_after before e);
  bytes = f.message_size;
  is_message = f.is_message;
}

-- a call that changes a disk: a change of cells, a sync, or the writing of the mark
pub data DiskCall : Type 0 where
  Changing : Change → DiskCall
  Syncing : DiskCall
  Marking : DiskCall

-- its kind
abbrev pub kind_of : DiskCall → CallKind
kind_of (Changing x) = Changes
kind_of Syncing = Syncs
kind_of Marking = Marks

-- the cells after a call; the mark stands beside them
abbrev pub disk_called : Disk → DiskCall → Disk
disk_called disk (Changing x) = with_changes disk (x ∷ [])
disk_called disk Syncing = synced_to (reads disk)
disk_called disk Marking = disk

-- the disk after calls, one after the other
unfoldable pub after_calls : List DiskCall → Disk → Disk
after_calls [] disk = disk
after_calls (c ∷ cs) disk = after_calls cs (disk_called disk c)

-- the Puts of a saved log, of entries that have n of the list before them
unfoldable pub saved_puts : Spellings → List Entry → ℕ → List Entry → List Change
saved_puts f list n [] = []
saved_puts f list n (e ∷ es) =
    change.Put (cell.Saved ((n + 1) % 32768)) (value.SavedCred (f.record_bytes (take n list) e))
    ∷ saved_puts f list (n + 1) es

-- the calls of a move; `list` is the server's list of entries up to its top
abbrev pub calls_by : Spellings → List Entry → Server Entry → Move Entry → List DiskCall
calls_by f list s (Joining v duty) = Marking ∷ []
calls_by f list s (Accepting plan role n) = Marking ∷ []
calls_by f list s (Applying n) = map Changing (between (history_of list) s.ap n)
calls_by f list s Flushing = Syncing ∷ Marking ∷ []
calls_by f list s (Demoting v) = Marking ∷ []
calls_by f list s Saving = if saves s.held s.saved then
    map Changing (saved_puts f list s.base s.items) ++ Syncing ∷ Marking ∷ [] else []
calls_by f list s m = []

-- those of a step's moves, in order
unfoldable pub all_calls : Spellings → Place → ℕ → List Entry → Server Entry → List (Move Entry)
    → List DiskCall
all_calls f q clock list s [] = []
all_calls f q clock list s (m ∷ ms) = calls_by f list s m
    ++ all_calls f q clock list (act q clock s m) ms
