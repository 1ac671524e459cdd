-- The record of an entry, as a function of the entries before it.
use Rattle.std.specs.Prelude.{ℕ, List, length}
use Rattle.harp_types.specs.declared.call.Call.{Call}
use Rattle.harp_types.specs.declared.cred.Cred.{Cred}
use Rattle.harp_types.specs.View.{View}
use Rattle.file_tree.specs.Book.{Entry, tree_after}
use Rattle.file_tree.specs.Calls.{outcome}
use Rattle.harp_cells.specs.Effect.{Cells}
use Rattle.event_record.specs.declared.record.RecordFields.{RecordFields}
use Rattle.fuzzy_cells.specs.History.{cells_at}
use Rattle.record_changes.specs.Records.{history_of, record_changes}

-- the cells after the records of entries
abbrev pub cells_of : List Entry → Cells
cells_of entries = cells_at (history_of entries) (length entries)

-- the entry of an update that follows these, with the reply of its outcome
abbrev pub entry_after : List Entry → ℕ → ℕ → ℕ → Cred → Call → ℕ → Entry
entry_after entries index client number cred call stamp = record {
  index = index;
  client = client;
  number = number;
  cred = cred;
  call = call;
  stamp = stamp;
  reply = (outcome (tree_after entries) cred call stamp).0;
}

-- THE RECORD of an entry that follows these, appended in this view. But for the view it is a
-- function of the entries up to its own
abbrev pub record_of : View → List Entry → Entry → RecordFields
record_of stamped earlier e = record {
  stamped = stamped;
  index = e.index;
  client = e.client;
  number = e.number;
  cred = e.cred;
  call = e.call;
  stamp = e.stamp;
  reply = e.reply;
  changes = record_changes (cells_of earlier) earlier e;
}
