-- The changes of cells that each update makes, in their order.
use Rattle.std.specs.Prelude.{ℕ, ◌==◌, ◌&&◌, List, [], ◌∷◌, ◌++◌, length, map, Option, Some, None, Ok, Err, if◌then◌else◌}
use Rattle.harp_types.specs.declared.call.Call.{Call}
use Rattle.harp_types.specs.declared.call.Call.TheVariants as call
use Rattle.harp_types.specs.declared.cred.Cred.{Cred}
use Rattle.harp_types.specs.Time.{time_of}
use Rattle.file_tree.specs.Tree.{Tree, place, slots_of, entry, free_from, used_blocks}
use Rattle.harp_types.specs.Limits.{field_left}
use Rattle.file_tree.specs.Outcome.{Outcome}
use Rattle.file_tree.specs.Rename.{freed}
use Rattle.file_tree.specs.Calls.{answered, outcome}
use Rattle.file_tree.specs.Book.{Entry}
use Rattle.harp_cells.specs.declared.cell.Cell.{Cell}
use Rattle.harp_cells.specs.declared.cell.Cell.TheVariants as cell
use Rattle.harp_cells.specs.declared.value.Value.{Value}
use Rattle.harp_cells.specs.declared.value.Value.TheVariants as value
use Rattle.harp_cells.specs.declared.change.Change.{Change}
use Rattle.harp_cells.specs.declared.change.Change.TheVariants as change
use Rattle.harp_cells.specs.Effect.{Cells}
use Rattle.harp_cells.specs.CellsOfTree.{cell_of_tree, content_of}
use Rattle.inode_blocks.specs.Changes.{puts, cuts, kept_in, text_put}

-- ---- cells by a tree

abbrev pub no_updates : ℕ → Option Entry
no_updates client = None

abbrev pub change_to : Cell → Option Value → Change
change_to c None = change.Erase c
change_to c (Some v) = change.Put c v

-- each of these cells gets its value by a tree
abbrev pub set_by : Tree → List Cell → List Change
set_by tree cells = map (λ c. change_to c (cell_of_tree tree 0 no_updates c)) cells

-- the totals and the stamp
abbrev pub meta_put : Tree → ℕ → Change
meta_put tree stamp = change.Put cell.Meta (value.Meta (length tree) (used_blocks tree) stamp)

-- ---- parts of the changes

-- the size of a file or a link
abbrev pub content_size : Tree → ℕ → ℕ
content_size tree number = length (content_of (place tree number))

-- a file gets a size: what is kept of the block that is cut, and an erasure of those behind it
abbrev pub resizes : Cells → Tree → ℕ → ℕ → List Change
resizes cells old number size =
    if size == field_left then [] else cuts number (content_size old number) size
    (kept_in cells number size)

-- the first free slot of a directory, or the one behind its last one
abbrev pub free_slot : Tree → ℕ → ℕ
free_slot tree dir = free_from 0 (slots_of (place tree dir))

-- a new object with an entry, and with a text where it is a link
abbrev pub makes : Tree → Tree → ℕ → List ℕ → List Change
makes old new dir text =
    set_by new (cell.Slot dir (free_slot old dir) ∷ []) ++ text_put (length old) text
    ++ set_by new (cell.Object dir ∷ cell.Object (length old) ∷ [])

-- a file gets attributes that are set
abbrev pub sets : Cells → Tree → Tree → ℕ → ℕ → List Change
sets cells old new number size =
    resizes cells old number size ++ set_by new (cell.Object number ∷ [])

-- blocks that were used go
abbrev pub erases : Tree → ℕ → List Change
erases old number = if content_size old number == 0 then [] else change.EraseFrom number 0 ∷ []

-- an object that lost an entry stays, or goes with its blocks
unfoldable pub loses : Tree → Tree → ℕ → List Change
loses old new number =
    elim (place new number) [ None ↦ erases old number | Some o ↦ [] ]
    ++ set_by new (cell.Object number ∷ [])

-- an entry is taken away
abbrev pub takes : Tree → Tree → ℕ → Option (ℕ × ℕ) → List Change
takes old new dir None = []
takes old new dir (Some x) =
    set_by new (cell.Slot dir x.0 ∷ cell.Object dir ∷ []) ++ loses old new x.1

-- two slots, which may be one
abbrev pub slot_pair : ℕ → ℕ → ℕ → ℕ → List Cell
slot_pair dir i to_dir j =
    if (dir == to_dir) && (i == j) then cell.Slot to_dir j ∷ []
    else cell.Slot dir i ∷ cell.Slot to_dir j ∷ []

-- two directories, which may be one
abbrev pub dir_pair : ℕ → ℕ → List Cell
dir_pair dir to_dir =
    if dir == to_dir then cell.Object dir ∷ []
    else cell.Object dir ∷ cell.Object to_dir ∷ []

-- the slots, the directories, an object that loses its entry to the moved one, and the moved one
unfoldable pub moves : Tree → Tree → ℕ → ℕ → ℕ × ℕ → Option (ℕ × ℕ) → List Change
moves old new dir to_dir x None =
    let j = free_from 0 (freed dir to_dir x.0 (slots_of (place old to_dir))) in
    set_by new (slot_pair dir x.0 to_dir j) ++ set_by new (dir_pair dir to_dir)
    ++ set_by new (cell.Object x.1 ∷ [])
moves old new dir to_dir x (Some y) =
    if y.1 == x.1 then []
    else set_by new (slot_pair dir x.0 to_dir y.0) ++ set_by new (dir_pair dir to_dir)
    ++ loses old new y.1
    ++ set_by new (cell.Object x.1 ∷ [])

abbrev pub renames : Tree → Tree → ℕ → ℕ → Option (ℕ × ℕ) → Option (ℕ × ℕ) → List Change
renames old new dir to_dir None y = []
renames old new dir to_dir (Some x) y = moves old new dir to_dir x y

abbrev pub entry_in : Tree → ℕ → List ℕ → Option (ℕ × ℕ)
entry_in tree dir name = entry (slots_of (place tree dir)) name

abbrev pub creates : Cells → Tree → Tree → ℕ → ℕ → Option (ℕ × ℕ) → List Change
creates cells old new dir size None = makes old new dir []
creates cells old new dir size (Some x) = sets cells old new x.1 size

-- ---- the table

-- what an update that isn't refused changes beside the totals, by the trees before and after it
unfoldable pub tree_changes : Cells → Tree → Tree → Call → List Change
tree_changes cells old new (call.SetAttr handle attr) = sets cells old new handle attr.size
tree_changes cells old new (call.Write handle offset bytes) =
    if length bytes == 0 then []
    else puts cells handle (content_size old handle) offset bytes
    ++ set_by new (cell.Object handle ∷ [])
tree_changes cells old new (call.Create dir name attr) =
    creates cells old new dir attr.size (entry_in old dir name)
tree_changes cells old new (call.MkDir dir name attr) = makes old new dir []
tree_changes cells old new (call.SymLink dir name text attr) = makes old new dir text
tree_changes cells old new (call.Link handle dir name) =
    set_by new (cell.Slot dir (free_slot old dir) ∷ cell.Object dir ∷ cell.Object handle ∷ [])
tree_changes cells old new (call.Remove dir name) = takes old new dir (entry_in old dir name)
tree_changes cells old new (call.RmDir dir name) = takes old new dir (entry_in old dir name)
tree_changes cells old new (call.Rename dir name to_dir to_name) =
    renames old new dir to_dir (entry_in old dir name) (entry_in old to_dir to_name)
tree_changes cells old new call.Null = []
tree_changes cells old new (call.GetAttr handle) = []
tree_changes cells old new (call.Lookup dir name) = []
tree_changes cells old new (call.ReadLink handle) = []
tree_changes cells old new (call.Read handle offset count) = []
tree_changes cells old new (call.ReadDir dir cookie count) = []
tree_changes cells old new (call.StatFs handle) = []

-- a refused call changes nothing beside them
abbrev pub changes_by : Cells → Tree → Call → Outcome → List Change
changes_by cells old c (Ok x) = tree_changes cells old x.1 c
changes_by cells old c (Err status) = []

-- the changes of a caller's update at a stamp
abbrev pub update_changes : Cells → Tree → Cred → Call → ℕ → List Change
update_changes cells tree cred c stamp =
    changes_by cells tree c (answered tree cred c (time_of stamp))
    ++ meta_put (outcome tree cred c stamp).1 stamp ∷ []
