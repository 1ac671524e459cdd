-- The changes of the records of entries.
use Rattle.std.specs.Prelude.{◌≡◌, true, List, [], ◌∷◌, ◌++◌}
use Rattle.harp_types.specs.Update.{is_update}
use Rattle.file_tree.specs.Book.{Entry, tree_after}
use Rattle.harp_cells.specs.declared.cell.Cell.TheVariants as cell
use Rattle.harp_cells.specs.declared.value.Value.TheVariants as value
use Rattle.harp_cells.specs.declared.change.Change.{Change}
use Rattle.harp_cells.specs.declared.change.Change.TheVariants as change
use Rattle.harp_cells.specs.Effect.{Cells, after}
use Rattle.cell_changes.specs.Table.{update_changes}
use Rattle.fuzzy_cells.specs.History.{History, no_cells}

-- the Put of the cell of an update's client
abbrev pub client_put : Entry → Change
client_put e = change.Put (cell.Client e.client) (value.Client e.number e.index e.reply)

-- THE CHANGES OF A RECORD, made of the cells that the entries before it leave: those of the
-- update, and its client's Put
abbrev pub record_changes : Cells → List Entry → Entry → List Change
record_changes cells earlier e = update_changes cells (tree_after earlier) e.cred e.call e.stamp
    ++ client_put e ∷ []

-- the changes of the records of entries that follow others, each made of the cells that the one
-- before it leaves
unfoldable pub history_from : Cells → List Entry → List Entry → History
history_from cells earlier [] = []
history_from cells earlier (e ∷ entries) = record_changes cells earlier e
    ∷ history_from (after (record_changes cells earlier e) cells) (earlier ++ e ∷ []) entries

-- THE HISTORY of entries, from no cells on
abbrev pub history_of : List Entry → History
history_of entries = history_from no_cells [] entries

-- each entry is an update
abbrev pub AreUpdates : List Entry → Type 0
AreUpdates [] = Unit {0}
AreUpdates (e ∷ entries) = (is_update e.call ≡ true) × AreUpdates entries
