-- What is read in cells that stand for a tree.
use Rattle.std.specs.Prelude.{◌≡◌, ℕ, ◌==◌, List, [], length, Option, Some, None, Ok, if◌then◌else◌}
use Rattle.harp_types.specs.declared.attr.Attr.{Attr}
use Rattle.harp_types.specs.declared.attr.Kind.TheVariants as kind
use Rattle.file_tree.specs.declared.object.Body.{Body}
use Rattle.file_tree.specs.declared.object.Body.TheVariants as body
use Rattle.file_tree.specs.declared.object.Object.{Object}
use Rattle.file_tree.specs.declared.object.Slot.{Slot}
use Rattle.file_tree.specs.Tree.{Tree, Slots, place, slots_of, free_from, with_entry, blocks_of, time_zero}
use Rattle.file_tree.specs.Tries.{directory}
use Rattle.harp_cells.specs.declared.value.Inode.{Inode}
use Rattle.harp_cells.specs.declared.value.Value.{Value}
use Rattle.harp_cells.specs.declared.value.Value.TheVariants as value
use Rattle.nfs_calls.specs.declared.parts.new_entry.Room.{Room}
use Rattle.nfs_calls.specs.declared.parts.totals.Totals.{Totals}
use Rattle.harp_cells.specs.CellsOfTree.{inode_of}

abbrev pub root_inode : Inode
root_inode =
    record {
      kind = kind.Directory;
      mode = 493;
      uid = 0;
      gid = 0;
      links = 2;
      parent = 1;
      size = 0;
      slots = 0;
      atime = time_zero;
      mtime = time_zero;
      ctime = time_zero;
    }

-- the attributes that an object's cell stands for
abbrev pub inode_found : ℕ → Option Value → Option Inode
inode_found number None = if number == 1 then Some root_inode else None
inode_found number (Some (value.Object inode)) = Some inode
inode_found number (Some (value.Meta next used stamp)) = None
inode_found number (Some (value.Unformed inode)) = None
inode_found number (Some (value.Block bytes)) = None
inode_found number (Some (value.Slot object name)) = None
inode_found number (Some (value.Client n index reply)) = None
inode_found number (Some (value.Saved bytes)) = None
inode_found number (Some (value.SavedCred bytes)) = None

abbrev pub inode_of_some : Tree → ℕ → Option Object → Option Inode
inode_of_some tree number None = None
inode_of_some tree number (Some o) = Some (inode_of tree number o)

-- an object's attributes, computed from the tree
unfoldable pub inode_placed : Tree → ℕ → Option Inode
inode_placed tree number = inode_of_some tree number (place tree number)

-- the attributes of NFS
abbrev pub attr_by : ℕ → Inode → Attr
attr_by number i = record {
  kind = i.kind;
  mode = i.mode;
  links = i.links;
  uid = i.uid;
  gid = i.gid;
  size = i.size;
  blocks = blocks_of i.size;
  fileid = number;
  atime = i.atime;
  mtime = i.mtime;
  ctime = i.ctime;
}

abbrev pub object_zero : Object
object_zero =
    record {
      mode = 0;
      uid = 0;
      gid = 0;
      atime = time_zero;
      mtime = time_zero;
      ctime = time_zero;
      body = body.Regular [];
    }

abbrev pub object_or_zero : Option Object → Object
object_or_zero None = object_zero
object_or_zero (Some o) = o

-- the object that a number names; an empty one where it names none
unfoldable pub object_at : Tree → ℕ → Object
object_at tree number = object_or_zero (place tree number)

-- the attributes of a live object
pub record IsInode (tree : Tree) (number : ℕ) (inode : Inode) : Type 0 where
  pub at : place tree number ≡ Some (object_at tree number)
  pub is : inode ≡ inode_of tree number (object_at tree number)

-- the attributes of a directory
pub record IsDirectory (tree : Tree) (number : ℕ) (inode : Inode) : Type 0 where
  pub own : IsInode tree number inode
  pub lists : directory tree number ≡ Ok (slots_of (place tree number))

-- the first free slot of a directory, and how many slots it has with a new entry there
pub record IsRoom (slots : Slots) (room : Room) : Type 0 where
  pub slot : room.slot ≡ free_from 0 slots
  pub slots_are : (s : Slot) → room.slots ≡ length (with_entry slots s)

abbrev pub first_totals : Totals
first_totals = record { next = 2; used = 0 }

-- the totals that a cell stands for
abbrev pub totals_found : Option Value → Totals
totals_found (Some (value.Meta next used stamp)) = record { next = next; used = used }
totals_found None = first_totals
totals_found (Some (value.Object inode)) = first_totals
totals_found (Some (value.Unformed inode)) = first_totals
totals_found (Some (value.Block bytes)) = first_totals
totals_found (Some (value.Slot object name)) = first_totals
totals_found (Some (value.Client n index reply)) = first_totals
totals_found (Some (value.Saved bytes)) = first_totals
totals_found (Some (value.SavedCred bytes)) = first_totals

-- a file's bytes, or a link's text
abbrev pub bytes_within : Body → List ℕ
bytes_within (body.Regular bytes) = bytes
bytes_within (body.Directory slots) = []
bytes_within (body.Link text) = text
