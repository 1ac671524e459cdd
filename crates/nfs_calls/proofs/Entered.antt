-- A directory with a further entry.
use Rattle.std.proofs.Common.{◌≡◌, ℕ, ◌+◌, ◌*◌, ◌≤◌, max, length, Option, Some, refl, sym, ap, ◌∙◌, arith}
use Rattle.harp_types.specs.declared.attr.Time.{Time}
use Rattle.file_tree.specs.declared.object.Body.TheVariants.{Directory}
use Rattle.file_tree.specs.declared.object.Slot.{Slot}
use Rattle.file_tree.specs.declared.object.Object.{Object}
use Rattle.file_tree.specs.Tree.{Tree, place, slots_of, free_from, with_entry, blocks_of, links_of, kind_of, parent_of}
use Rattle.file_tree.specs.Outcome.{reslotted}
use Rattle.file_tree.proofs.Bounds.{subdirectories-le}
use Rattle.file_tree.proofs.TryLaws.{directory_is}
use Rattle.harp_cells.specs.declared.value.Inode.{Inode}
use Rattle.harp_cells.specs.CellsOfTree.{inode_of}
use Rattle.harp_cells.specs.Effect.{Cells}
use Rattle.inode_dirs.specs.Slots.{TellsSlots}
use Rattle.inode_dirs.proofs.SlotCounts.{entry_grows}
use Rattle.inode_dirs.proofs.TreeCells.{trees_hold_slots}
use Rattle.cell_changes.specs.TreeCells.{TreeCells}
use Rattle.cell_changes.proofs.Links.{NameSameKinds, directory_share, links_entered}
use Rattle.nfs_calls.specs.NewEntries.{entered}
use Rattle.nfs_calls.specs.TreeCells.{IsDirectory, object_at}

-- the stored number of slots is that of the directory
pub slot_count : (tree : Tree) (dir : ℕ) (i : Inode) → IsDirectory tree dir i
    → length (slots_of (place tree dir)) ≡ i.slots
slot_count tree dir i is =
    ap (λ (x : Option Object). length (slots_of x)) is.own.at
    ∙ sym (ap (λ (j : Inode). j.slots) is.own.is)

-- cells that stand for a tree tell the slots of a directory
pub tells_slots : (t : TreeCells) (told : Option Cells) (dir : ℕ) (i : Inode) → told ≡ Some t.cells
    → IsDirectory t.tree dir i
    → TellsSlots told dir i.slots (slots_of (place t.tree dir))
tells_slots t told dir i e is = record {
  cells = t.cells;
  are = e;
  holds = trees_hold_slots t.cells t.tree t.stamp dir t.stand;
  count = slot_count t.tree dir i is;
}

-- so many slots it has with a further entry
pub slots_grow : (tree : Tree) (dir : ℕ) (i : Inode) (slot many : ℕ) (s : Slot)
    → IsDirectory tree dir i
    → slot ≡ free_from 0 (slots_of (place tree dir)) → many ≡ max i.slots (slot + 1)
    → many ≡ length (with_entry (slots_of (place tree dir)) s)
slots_grow tree dir i slot many s is free e =
    e ∙ ap (λ (n : ℕ). max n (slot + 1)) (sym (slot_count tree dir i is))
    ∙ ap (λ (n : ℕ). max (length (slots_of (place tree dir))) (n + 1)) free
    ∙ sym (entry_grows (slots_of (place tree dir)) s)

-- equal fields make equal attributes
pub same_inode : (i j : Inode) → i.kind ≡ j.kind → i.mode ≡ j.mode → i.uid ≡ j.uid → i.gid ≡ j.gid
    → i.links ≡ j.links → i.parent ≡ j.parent
    → i.size ≡ j.size → i.slots ≡ j.slots → i.atime ≡ j.atime → i.mtime ≡ j.mtime
    → i.ctime ≡ j.ctime → i ≡ j
same_inode i j kind mode uid gid links parent size slots atime mtime ctime = λ k. record {
  kind = kind k;
  mode = mode k;
  uid = uid k;
  gid = gid k;
  links = links k;
  parent = parent k;
  size = size k;
  slots = slots k;
  atime = atime k;
  mtime = mtime k;
  ctime = ctime k;
}

-- the body of a directory
pub directory_body : (tree : Tree) (dir : ℕ) (i : Inode) → IsDirectory tree dir i
    → (object_at tree dir).body ≡ Directory (slots_of (place tree dir))
directory_body tree dir i is =
    let d = directory_is tree dir (slots_of (place tree dir)) is.lists in
    let same : d.object ≡ object_at tree dir = let at = d.at in let own = is.own.at in cc in
    ap (λ (o : Object). o.body) (sym same) ∙ d.body

pub links_at : (tree : Tree) (dir : ℕ) (i : Inode) → IsDirectory tree dir i
    → i.links ≡ links_of tree dir (Directory (slots_of (place tree dir)))
links_at tree dir i is =
    ap (λ (j : Inode). j.links) is.own.is ∙ ap (links_of tree dir) (directory_body tree dir i is)

links-le : (tree : Tree) (dir : ℕ) (i : Inode) → IsDirectory tree dir i → i.links ≤ 2 + i.slots
unfolding links_of
links-le tree dir i is =
    omega (
      arith,
      links_at tree dir i is,
      slot_count tree dir i is,
      subdirectories-le tree (slots_of (place tree dir)),
    )

-- a directory's attributes with a further entry
pub entered_is : (old new : Tree) (dir : ℕ) (i : Inode) (s : Slot) (many more : ℕ) (now : Time)
    → IsDirectory old dir i
    → many ≡ length (with_entry (slots_of (place old dir)) s) → i.slots ≤ many
    → blocks_of (264 * many) ≤ 65536
    → directory_share new (Some s) ≡ more → more ≤ 1
    → NameSameKinds old new (slots_of (place old dir)) → parent_of new dir ≡ parent_of old dir
    → inode_of new dir (reslotted now (with_entry (slots_of (place old dir)) s) (object_at old dir))
    ≡ entered i many more now
unfolding entered
entered_is old new dir i s many more now is count grows room named one kinds parent =
    let o = object_at old dir in
    let slots = slots_of (place old dir) in
    let links = links_entered old new dir slots s kinds in
    let few = links-le old dir i is in
    same_inode (inode_of new dir (reslotted now (with_entry slots s) o)) (entered i many more now)
    (ap kind_of (sym (directory_body old dir i is)) ∙ sym (ap (λ (j : Inode). j.kind) is.own.is))
    (sym (ap (λ (j : Inode). j.mode) is.own.is))
    (sym (ap (λ (j : Inode). j.uid) is.own.is))
    (sym (ap (λ (j : Inode). j.gid) is.own.is))
    (omega (arith, links, named, few, grows, room, one, links_at old dir i is))
    (parent ∙ sym (ap (λ (j : Inode). j.parent) is.own.is))
    (omega (arith, count, room))
    (omega (arith, count, room))
    (sym (ap (λ (j : Inode). j.atime) is.own.is))
    refl
    refl
