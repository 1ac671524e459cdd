-- What holds of the changes of updates.
use Rattle.std.specs.Prelude.{◌≡◌, ℕ, true, false, List}
use Rattle.std.specs.List.{list_all}
use Rattle.harp_types.specs.declared.call.Call.{Call}
use Rattle.harp_types.specs.declared.cred.Cred.{Cred}
use Rattle.harp_types.specs.Update.{is_update}
use Rattle.file_tree.specs.Calls.{outcome}
use Rattle.harp_cells.specs.declared.cell.Cell.{Cell}
use Rattle.harp_cells.specs.declared.change.Change.{Change}
use Rattle.harp_cells.specs.Effect.{Cells, after}
use Rattle.harp_cells.specs.CellsOfTree.{StandForTree}
use Rattle.cell_changes.specs.TreeCells.{TreeCells}
use Rattle.cell_changes.specs.Table.{update_changes}
use Rattle.cell_changes.specs.Short.{changes_tree, is_of_tree}

-- the changes of an update lead to the tree of its outcome
abbrev pub UpdatesLead : Type 0
UpdatesLead = (t : TreeCells) (cred : Cred) (c : Call) (stamp : ℕ) → is_update c ≡ true
    → StandForTree (after (update_changes t.cells t.tree cred c stamp) t.cells)
    (outcome t.tree cred c stamp).1 stamp

-- changes of cells of the tree leave the cells of clients and of saved logs
abbrev pub OthersStay : Type 0
OthersStay = (changes : List Change) (cells : Cells) (c : Cell)
    → list_all changes_tree changes ≡ true → is_of_tree c ≡ false
    → after changes cells c ≡ cells c
