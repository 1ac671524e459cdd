-- What stored attributes become where entries go.
use Rattle.std.specs.Prelude.{◌≡◌, ℕ, ◌-◌, Bool, true, false, ◌||◌, ◌&&◌, not, ◌==◌, nat_le, List, [], ◌∷◌, ◌++◌, Some, if◌then◌else◌}
use Rattle.harp_types.specs.declared.attr.Kind.{Kind}
use Rattle.harp_types.specs.declared.attr.Kind.TheVariants as kind
use Rattle.harp_types.specs.declared.attr.Time.{Time}
use Rattle.file_tree.specs.Tree.{Tree, time_zero, place, slots_of, blocks_of, entry, names_at}
use Rattle.file_tree.specs.Sound.{IsSound}
use Rattle.harp_cells.specs.declared.value.Inode.{Inode}
use Rattle.harp_cells.specs.declared.value.Value.TheVariants as value
use Rattle.harp_cells.specs.declared.cell.Cell.TheVariants as cell
use Rattle.harp_cells.specs.declared.change.Change.{Change}
use Rattle.harp_cells.specs.declared.change.Change.TheVariants as change
use Rattle.nfs_calls.specs.declared.parts.totals.Totals.{Totals}
use Rattle.nfs_calls.specs.TreeCells.{IsInode, IsDirectory}

abbrev pub is_directory_kind : Kind → Bool
is_directory_kind kind.Directory = true
is_directory_kind kind.Regular = false
is_directory_kind kind.Link = false

-- 1 for a directory, which is a link of the one that it is in
abbrev pub link_of : Kind → ℕ
link_of k = if is_directory_kind k then 1 else 0

-- a directory with so many links, after a change of its slots
abbrev pub relinked : Time → ℕ → Inode → Inode
relinked now links i = record i { links = links; mtime = now; ctime = now }

-- an object that lost an entry and stays
abbrev pub unlinked : Time → Inode → Inode
unlinked now i = record i { links = i.links - 1; ctime = now }

-- whether an object goes with one of its entries: its last one, or that of a directory
abbrev pub is_last : Inode → Bool
is_last i = is_directory_kind i.kind || nat_le i.links 1

-- a file or a link with some bytes
abbrev pub has_blocks : Inode → Bool
has_blocks i = not (is_directory_kind i.kind) && not (i.size == 0)

abbrev pub erasure : ℕ → Inode → List Change
erasure number i = if has_blocks i then change.EraseFrom number 0 ∷ [] else []

-- the changes of an object that loses an entry
abbrev pub loss : ℕ → Inode → Time → List Change
loss number i now =
    if is_last i then erasure number i ++ change.Erase (cell.Object number) ∷ []
    else change.Put (cell.Object number) (value.Object (unlinked now i)) ∷ []

-- the totals after an object lost an entry
abbrev pub after_loss : Totals → Inode → Totals
after_loss totals i =
    if is_last i then record totals { used = totals.used - blocks_of i.size }
    else totals

abbrev pub inode_zero : Inode
inode_zero =
    record {
      kind = kind.Regular;
      mode = 0;
      uid = 0;
      gid = 0;
      links = 0;
      parent = 0;
      size = 0;
      slots = 0;
      atime = time_zero;
      mtime = time_zero;
      ctime = time_zero;
    }

-- an entry of a directory, given by its slot and its object, and the attributes of both; the object
-- has no entry of its own
pub record IsTaking (tree : Tree) (dir : ℕ) (i : Inode) (name : List ℕ) (x : ℕ × ℕ)
    (j : Inode) : Type 0 where
  pub sound : IsSound tree
  pub directory : IsDirectory tree dir i
  pub entry : entry (slots_of (place tree dir)) name ≡ Some x
  pub object : IsInode tree x.1 j
  pub bare : (k : ℕ) → names_at k (place tree x.1) ≡ 0
