-- What holds of the records of entries.
use Rattle.std.specs.Prelude.{◌≡◌, List, [], ◌∷◌, ◌++◌}
use Rattle.harp_types.specs.View.{View}
use Rattle.file_tree.specs.Book.{Entry}
use Rattle.event_record.specs.Record.{entry_of}
use Rattle.record_changes.specs.Records.{history_of}
use Rattle.tree_log.specs.Records.{record_of}

-- a record stands for its entry
abbrev pub RecordsAreOfEntries : Type 0
RecordsAreOfEntries = (view : View) (entries : List Entry) (e : Entry)
    → entry_of (record_of view entries e) ≡ e

-- whoever makes them, in whatever view: records of one entry after the same ones have the same
-- changes
abbrev pub RecordsAreAlike : Type 0
RecordsAreAlike = (view other : View) (entries : List Entry) (e : Entry)
    → record_of other entries e ≡ record (record_of view entries e) { stamped = other }

-- the history of the entries grows by the changes of the record
abbrev pub HistoriesGrowByRecords : Type 0
HistoriesGrowByRecords = (view : View) (entries : List Entry) (e : Entry)
    → history_of (entries ++ e ∷ []) ≡ history_of entries
    ++ (record_of view entries e).changes ∷ []
