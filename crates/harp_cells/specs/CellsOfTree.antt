-- The cells that stand for a tree and its updates.
use Rattle.std.specs.Prelude.{◌≡◌, ℕ, ◌-◌, ◌*◌, ◌≤◌, Bool, true, false, ◌==◌, List, [], ◌∷◌, ◌++◌, length, take, drop, replicate, slice_index_or, Option, Some, None, if◌then◌else◌}
use Rattle.harp_types.specs.Limits.{block_size}
use Rattle.harp_types.specs.declared.attr.Kind.TheVariants as kind
use Rattle.file_tree.specs.declared.object.Slot.{Slot}
use Rattle.file_tree.specs.declared.object.Body.TheVariants as body
use Rattle.file_tree.specs.declared.object.Object.{Object}
use Rattle.file_tree.specs.Tree.{Tree, place, time_zero, kind_of, size_of, slots_of, slots_within, used_blocks, links_of, parent_of}
use Rattle.file_tree.specs.Book.{Entry, tree_after, last_of, last_stamp}
use Rattle.harp_cells.specs.declared.value.Inode.{Inode}
use Rattle.harp_cells.specs.declared.value.Value.{Value}
use Rattle.harp_cells.specs.declared.value.Value.TheVariants as value
use Rattle.harp_cells.specs.declared.cell.Cell.{Cell}
use Rattle.harp_cells.specs.declared.cell.Cell.TheVariants as cell
use Rattle.harp_cells.specs.Effect.{Cells}

-- ---- the value of each cell

-- an object's attributes, computed from the tree
abbrev pub inode_of : Tree → ℕ → Object → Inode
inode_of tree number o = record {
  kind = kind_of o.body;
  mode = o.mode;
  uid = o.uid;
  gid = o.gid;
  links = links_of tree number o.body;
  parent = parent_of tree number;
  size = size_of o.body;
  slots = length (slots_within o.body);
  atime = o.atime;
  mtime = o.mtime;
  ctime = o.ctime;
}

abbrev pub object_value : Tree → ℕ → Option Object → Option Value
object_value tree number None = None
object_value tree number (Some o) = Some (value.Object (inode_of tree number o))

-- a file has its bytes in blocks, a symbolic link its text
abbrev pub content_of : Option Object → List ℕ
content_of None = []
content_of (Some o) =
    elim o.body [ body.Regular bytes ↦ bytes | body.Directory slots ↦ [] | body.Link text ↦ text ]

-- the bytes of a block, fewer than its size in the last one
abbrev pub block_of : List ℕ → ℕ → List ℕ
block_of bytes block = take block_size (drop (block_size * block) bytes)

-- a block at or past the end is absent
abbrev pub block_value : List ℕ → Option Value
block_value [] = None
block_value (b ∷ bytes) = Some (value.Block (b ∷ bytes))

-- a free slot, and one at or past the number of slots, is absent
abbrev pub slot_value : Option Slot → Option Value
slot_value None = None
slot_value (Some s) = Some (value.Slot s.number s.name)

-- a client's last update
abbrev pub client_value : Option Entry → Option Value
client_value None = None
client_value (Some e) = Some (value.Client e.number e.index e.reply)

-- the value of each cell by a tree, the stamp of its last update and the last update of each
-- client. The cells of an object that isn't live are absent
abbrev pub cell_of_tree : Tree → ℕ → (ℕ → Option Entry) → Cells
cell_of_tree tree stamp last cell.Meta = Some (value.Meta (length tree) (used_blocks tree) stamp)
cell_of_tree tree stamp last (cell.Object object) = object_value tree object (place tree object)
cell_of_tree tree stamp last (cell.Block object block) =
    block_value (block_of (content_of (place tree object)) block)
cell_of_tree tree stamp last (cell.Slot object slot) =
    slot_value (slice_index_or (slots_of (place tree object)) slot None)
cell_of_tree tree stamp last (cell.Client client) = client_value (last client)
cell_of_tree tree stamp last (cell.Saved at) = None

-- the cells after the entries of a book
abbrev pub cells_after : List Entry → Cells
cells_after entries =
    cell_of_tree (tree_after entries) (last_stamp entries) (λ client. last_of client entries)

-- ---- values that stand for the same

abbrev pub first_meta : Value
first_meta = value.Meta 2 0 0

-- the root of the first tree
abbrev pub first_root : Value
first_root =
    value.Object (record {
      kind = kind.Directory;
      mode = 493;
      uid = 0;
      gid = 0;
      links = 2;
      parent = 1;
      size = 0;
      slots = 0;
      atime = time_zero;
      mtime = time_zero;
      ctime = time_zero;
    })

-- what an absent cell stands for, other than a block of a file
abbrev pub absent_value : Cell → Option Value
absent_value cell.Meta = Some first_meta
absent_value (cell.Object object) = if object == 1 then Some first_root else None
absent_value (cell.Block object block) = None
absent_value (cell.Slot object slot) = None
absent_value (cell.Client client) = None
absent_value (cell.Saved at) = None

-- the bytes of a whole block of a file, those missing at its end being zeros
abbrev pub full_value : Value → Value
full_value (value.Block bytes) = value.Block (bytes ++ replicate (block_size - length bytes) 0)
full_value (value.Meta next used stamp) = value.Meta next used stamp
full_value (value.Object inode) = value.Object inode
full_value (value.Unformed inode) = value.Unformed inode
full_value (value.Slot object name) = value.Slot object name
full_value (value.Client number index reply) = value.Client number index reply
full_value (value.Saved bytes) = value.Saved bytes
full_value (value.SavedCred bytes) = value.SavedCred bytes

abbrev pub is_regular_at : Option Object → Bool
is_regular_at None = false
is_regular_at (Some o) =
    elim o.body [
      | body.Regular bytes ↦ true
      | body.Directory slots ↦ false
      | body.Link text ↦
          false
    ]

abbrev pub is_in_file : Tree → Cell → Bool
is_in_file tree (cell.Block object block) = is_regular_at (place tree object)
is_in_file tree cell.Meta = false
is_in_file tree (cell.Object object) = false
is_in_file tree (cell.Slot object slot) = false
is_in_file tree (cell.Client client) = false
is_in_file tree (cell.Saved at) = false

-- a block of zeros
abbrev pub zero_block : Value
zero_block = value.Block (replicate block_size 0)

-- what a cell stands for that is absent or holds a value: an absent block of a file stands for
-- zeros
abbrev pub stands_for : Tree → Cell → Option Value → Option Value
stands_for tree c None = if is_in_file tree c then Some zero_block else absent_value c
stands_for tree c (Some v) = Some (if is_in_file tree c then full_value v else v)

-- two values of one cell stand for the same
abbrev pub StandForSame : Tree → Cell → Option Value → Option Value → Type 0
StandForSame tree c v w = stands_for tree c v ≡ stands_for tree c w

-- these cells stand for a tree, whose last update has this stamp; those of clients and of saved
-- logs are left aside. No block is there at or past the end of its object's content, be it of zeros
pub record StandForTree (cells : Cells) (tree : Tree) (stamp : ℕ) : Type 0 where
  pub meta : StandForSame tree cell.Meta (cells cell.Meta)
      (Some (value.Meta (length tree) (used_blocks tree) stamp))
  pub object : (object : ℕ) → StandForSame tree (cell.Object object) (cells (cell.Object object))
      (object_value tree object (place tree object))
  pub block : (object block : ℕ) → StandForSame tree (cell.Block object block)
      (cells (cell.Block object block))
      (block_value (block_of (content_of (place tree object)) block))
  pub ends : (object block : ℕ) → length (content_of (place tree object)) ≤ block_size * block
      → cells (cell.Block object block) ≡ None
  pub slot : (object slot : ℕ) → StandForSame tree (cell.Slot object slot)
      (cells (cell.Slot object slot))
      (slot_value (slice_index_or (slots_of (place tree object)) slot None))

-- these cells stand for the tree and the updates after the entries of a book
pub record StandForBook (cells : Cells) (entries : List Entry) : Type 0 where
  pub tree : StandForTree cells (tree_after entries) (last_stamp entries)
  pub client : (client : ℕ) → cells (cell.Client client) ≡ client_value (last_of client entries)
