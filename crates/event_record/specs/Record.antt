-- What a record stands for.
use Rattle.std.specs.Prelude.{List, [], ◌∷◌, ◌++◌}
use Rattle.std.specs.List.{flat_map}
use Rattle.event_record.specs.declared.record.RecordFields.{RecordFields}
use Rattle.file_tree.specs.Book.{Entry}
use Rattle.harp_cells.specs.declared.change.Change.{Change}
use Rattle.harp_cells.specs.CellsOfTree.{StandForBook}
use Rattle.harp_cells.specs.Effect.{Cells, after}

-- the entry of the book that a record stands for, whatever the view in which it was appended
abbrev pub entry_of : RecordFields → Entry
entry_of r =
    record {
      index = r.index;
      client = r.client;
      number = r.number;
      cred = r.cred;
      call = r.call;
      stamp = r.stamp;
      reply = r.reply;
    }

-- a record stands for its entry after these entries: where these cells stand for the book of the
-- entries, its changes lead to cells that stand for the book with its entry
abbrev pub StandsFor : Cells → List Entry → RecordFields → Type 0
StandsFor cells earlier r =
    StandForBook cells earlier → StandForBook (after r.changes cells) (earlier ++ entry_of r ∷ [])

-- each of these records stands for its entry, in the cells that the records before it make of these
-- ones
abbrev pub AllStandFor : Cells → List Entry → List RecordFields → Type 0
AllStandFor cells earlier [] = Unit {0}
AllStandFor cells earlier (r ∷ rs) =
    StandsFor cells earlier r × AllStandFor (after r.changes cells) (earlier ++ entry_of r ∷ []) rs

-- the changes of records, one after the other
abbrev pub changes_of : List RecordFields → List Change
changes_of rs = flat_map (λ r. r.changes) rs
