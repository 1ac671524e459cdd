-- What the cells of a whole tree and of an object stand for.
use Rattle.std.specs.Prelude.{ℕ, ◌==◌, List, [], ◌∷◌, Option, Some, None, if◌then◌else◌}
use Rattle.harp_types.specs.declared.attr.Attr.{Attr}
use Rattle.harp_types.specs.declared.attr.Kind.TheVariants as kind
use Rattle.file_tree.specs.declared.object.Object.{Object}
use Rattle.file_tree.specs.Tree.{Tree, blocks_of, place, time_zero}
use Rattle.harp_cells.specs.declared.value.Inode.{Inode}
use Rattle.harp_cells.specs.declared.value.Value.{Value}
use Rattle.harp_cells.specs.declared.value.Value.TheVariants as value
use Rattle.harp_cells.specs.CellsOfTree.{inode_of}

-- the number of the next object: 2 where the cell of the whole tree is absent
abbrev pub next_found : Option Value → ℕ
next_found None = 2
next_found (Some (value.Meta next used stamp)) = next
next_found (Some (value.Object inode)) = 2
next_found (Some (value.Unformed inode)) = 2
next_found (Some (value.Block bytes)) = 2
next_found (Some (value.Slot object name)) = 2
next_found (Some (value.Client number index reply)) = 2
next_found (Some (value.Saved bytes)) = 2
next_found (Some (value.SavedCred bytes)) = 2

-- the root of the first tree, whose cell may be absent
abbrev pub first_root_inode : Inode
first_root_inode =
    record {
      kind = kind.Directory;
      mode = 493;
      uid = 0;
      gid = 0;
      links = 2;
      parent = 1;
      size = 0;
      slots = 0;
      atime = time_zero;
      mtime = time_zero;
      ctime = time_zero;
    }

-- the attributes that an object's cell stands for; none where no object lives
abbrev pub inode_found : ℕ → Option Value → Option Inode
inode_found number None = if number == 1 then Some first_root_inode else None
inode_found number (Some (value.Object inode)) = Some inode
inode_found number (Some (value.Meta next used stamp)) = None
inode_found number (Some (value.Unformed inode)) = None
inode_found number (Some (value.Block bytes)) = None
inode_found number (Some (value.Slot object name)) = None
inode_found number (Some (value.Client n index reply)) = None
inode_found number (Some (value.Saved bytes)) = None
inode_found number (Some (value.SavedCred bytes)) = None

abbrev pub inode_of_some : Tree → ℕ → Option Object → Option Inode
inode_of_some tree number None = None
inode_of_some tree number (Some o) = Some (inode_of tree number o)

-- an object's attributes, computed from the tree
unfoldable pub inode_placed : Tree → ℕ → Option Inode
inode_placed tree number = inode_of_some tree number (place tree number)

-- the attributes of NFS
abbrev pub attr_by : ℕ → Inode → Attr
attr_by number i = record {
  kind = i.kind;
  mode = i.mode;
  links = i.links;
  uid = i.uid;
  gid = i.gid;
  size = i.size;
  blocks = blocks_of i.size;
  fileid = number;
  atime = i.atime;
  mtime = i.mtime;
  ctime = i.ctime;
}

-- what is there or not, as a list
abbrev pub at_most_one : {X : Type 0} → Option X → List X
at_most_one None = []
at_most_one (Some x) = x ∷ []
