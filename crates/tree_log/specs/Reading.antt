-- What a log and a store hold of a tree.
use Rattle.std.specs.Prelude.{◌≡◌, ℕ, ◌≤◌, List, drop, length, map, Option, Some}
use Rattle.event_record.specs.Record.{entry_of}
use Rattle.event_record.specs.declared.record.RecordFields.{RecordFields as Record}
use Rattle.file_tree.specs.Book.{Entry}
use Rattle.fuzzy_cells.specs.Fuzzy.{IsFuzzy}
use Rattle.fuzzy_cells.specs.History.{cells_at}
use Rattle.harp_cells.specs.Effect.{Cells}
use Rattle.harp_store.specs.Disk.{Moments, cells_told}
use Rattle.record_changes.specs.Records.{AreUpdates, history_of, record_changes}
use Rattle.volatile_log.specs.Log.{LogValue, top}
use Rattle.tree_log.specs.TreeLog.{changes_in}

-- THE LOG IS OF A LIST of updates, up to its top: its records are those of the updates after its
-- base, with the changes that the list gives them
pub record IsOfList (list : List Entry) (log : LogValue) : Type 0 where
  pub updates : AreUpdates list
  pub long : length list ≡ top log
  pub entries : map entry_of log.records ≡ drop log.base list
  pub changes : changes_in log.records ≡ drop log.base (history_of list)

-- THE STORE IS BEHIND: as it reads, each of its cells is of some moment of the list between AP and
-- a number that is at most this one
pub record IsBehind (list : List Entry) (upto : ℕ) (log : LogValue) (told : Option Moments) : Type 0 where
  pub cells : Cells
  pub told_is : cells_told told ≡ Some cells
  pub ahead : ℕ
  pub from : log.ap ≤ ahead
  pub within : ahead ≤ upto
  pub fuzzy : IsFuzzy (history_of list) log.ap ahead cells

-- THE TREE AFTER `upto` UPDATES of a list can be read
pub record HoldsTree (list : List Entry) (upto : ℕ) (log : LogValue) (told : Option Moments) : Type 0 where
  pub of_list : IsOfList list log
  pub behind : IsBehind list upto log told

-- THE RECORD OF THE NEXT ENTRY of a list, whatever the view that it is stamped with
pub record IsNextRecord (list : List Entry) (e : Entry) (r : Record) : Type 0 where
  pub entry : entry_of r ≡ e
  pub changes : r.changes ≡ record_changes (cells_at (history_of list) (length list)) list e
