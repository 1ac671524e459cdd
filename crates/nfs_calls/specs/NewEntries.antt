-- What stored attributes become where an entry comes, and the changes that make it.
use Rattle.std.specs.Prelude.{ℕ, ◌+◌, ◌*◌, ◌≤◌, List, [], ◌∷◌, ◌++◌, length}
use Rattle.harp_types.specs.declared.attr.Kind.{Kind}
use Rattle.harp_types.specs.declared.attr.SetAttr.{SetAttr}
use Rattle.harp_types.specs.declared.attr.Time.{Time}
use Rattle.harp_types.specs.declared.cred.Cred.{Cred}
use Rattle.harp_types.specs.Limits.{longest_name, slot_size}
use Rattle.file_tree.specs.Outcome.{given, given_mode, given_time}
use Rattle.harp_cells.specs.declared.cell.Cell.TheVariants as cell
use Rattle.harp_cells.specs.declared.change.Change.{Change}
use Rattle.harp_cells.specs.declared.change.Change.TheVariants as changing
use Rattle.harp_cells.specs.declared.value.Inode.{Inode}
use Rattle.harp_cells.specs.declared.value.Value.TheVariants as value
use Rattle.inode_blocks.specs.Changes.{text_put}
use Rattle.nfs_calls.specs.Space.{capped}

-- a name that an entry's cell holds
abbrev pub FitsName : List ℕ → Type 0
FitsName name = (1 ≤ length name) × (length name ≤ longest_name)

-- a directory with so many slots after an entry came, and so many links more
unfoldable pub entered : Inode → ℕ → ℕ → Time → Inode
entered i slots more now = record i {
  links = capped (i.links + more);
  size = capped (slot_size * slots);
  slots = capped slots;
  mtime = now;
  ctime = now;
}

-- the attributes of a caller's new object
unfoldable pub made_inode : Cred → SetAttr → Kind → ℕ → ℕ → ℕ → Time → Inode
made_inode cred a kind links parent size now = record {
  kind = kind;
  mode = given_mode a.mode 0;
  uid = given a.uid cred.uid;
  gid = given a.gid cred.gid;
  links = links;
  parent = parent;
  size = size;
  slots = 0;
  atime = given_time a.atime now;
  mtime = given_time a.mtime now;
  ctime = now;
}

-- the changes that make an object with its entry, and with a text where it is a link
abbrev pub makes_by : ℕ → ℕ → List ℕ → Inode → ℕ → Inode → List ℕ → List Change
makes_by dir slot name directory number made text =
    (changing.Put (cell.Slot dir slot) (value.Slot number name) ∷ []) ++ text_put number text
    ++ changing.Put (cell.Object dir) (value.Object directory) ∷ []
    ++ changing.Put (cell.Object number) (value.Object made) ∷ []

-- a file or a link with one more entry
unfoldable pub linked : Inode → Time → Inode
linked i now = record i { links = capped (i.links + 1); ctime = now }

-- the changes that make an entry of an object that is there
abbrev pub links_by : ℕ → ℕ → List ℕ → Inode → ℕ → Inode → List Change
links_by dir slot name directory number linked =
    changing.Put (cell.Slot dir slot) (value.Slot number name)
    ∷ changing.Put (cell.Object dir) (value.Object directory)
    ∷ changing.Put (cell.Object number) (value.Object linked) ∷ []
