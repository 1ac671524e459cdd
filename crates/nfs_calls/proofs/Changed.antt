-- What a change of one object leaves that keeps its kind and its slots.
use Rattle.std.proofs.Common.{◌≡◌, ℕ, [], ◌∷◌, length, set, Some, Ok, refl, sym, ap, ◌∙◌, arith}
use Rattle.file_tree.specs.declared.object.Body.{Body}
use Rattle.file_tree.specs.declared.object.Body.TheVariants as body
use Rattle.file_tree.specs.declared.object.Object.{Object}
use Rattle.file_tree.specs.Tree.{Tree, Slots, place, slots_within, names_in, names_of, is_directory, links_of, kind_of, size_of, blocks_of, used_blocks}
use Rattle.file_tree.specs.Outcome.{change}
use Rattle.file_tree.proofs.Kept.{place_changed, used_change, length-change}
use Rattle.file_tree.proofs.Reslots.{change_is}
use Rattle.file_tree.proofs.SoundChanges.{kinds_set, names_at_set, names_of_set}
use Rattle.harp_cells.specs.declared.cell.Cell.TheVariants as cell
use Rattle.harp_cells.specs.declared.change.Change.TheVariants as change
use Rattle.harp_cells.specs.declared.value.Inode.{Inode}
use Rattle.harp_cells.specs.declared.value.Value.TheVariants as value
use Rattle.harp_cells.specs.CellsOfTree.{inode_of, object_value}
use Rattle.cell_changes.specs.Table.{set_by, change_to}
use Rattle.cell_changes.proofs.Links.{NameSameKinds, links_kept, parent_kept}
use Rattle.nfs_calls.specs.declared.parts.totals.Totals.{Totals}
use Rattle.nfs_calls.specs.Plans.{totals_of}
use Rattle.nfs_calls.specs.Space.{replaced_blocks}
use Rattle.nfs_calls.specs.TreeCells.{IsInode, object_at}
use Rattle.nfs_calls.proofs.Entered.{same_inode}
use Rattle.nfs_calls.proofs.RoomLaws.{replaced_is}

directories : (b c : Body) → kind_of c ≡ kind_of b → is_directory c ≡ is_directory b
directories (body.Regular x) (body.Regular y) e = refl
directories (body.Regular x) (body.Directory y) e = absurd cc
directories (body.Regular x) (body.Link y) e = absurd cc
directories (body.Directory x) (body.Regular y) e = absurd cc
directories (body.Directory x) (body.Directory y) e = refl
directories (body.Directory x) (body.Link y) e = absurd cc
directories (body.Link x) (body.Regular y) e = absurd cc
directories (body.Link x) (body.Directory y) e = absurd cc
directories (body.Link x) (body.Link y) e = refl

links_same : (old new : Tree) (number : ℕ) (b c : Body) → kind_of c ≡ kind_of b
    → slots_within c ≡ slots_within b → NameSameKinds old new (slots_within b)
    → names_of new number ≡ names_of old number → links_of new number c ≡ links_of old number b
unfolding links_of
links_same old new number (body.Regular x) (body.Regular y) kind slots kinds names = names
links_same old new number (body.Regular x) (body.Directory y) kind slots kinds names = absurd cc
links_same old new number (body.Regular x) (body.Link y) kind slots kinds names = absurd cc
links_same old new number (body.Directory x) (body.Regular y) kind slots kinds names = absurd cc
links_same old new number (body.Directory x) (body.Directory y) kind slots kinds names =
    ap (λ (s : Slots). links_of new number (body.Directory s)) slots
    ∙ links_kept old new number x kinds
links_same old new number (body.Directory x) (body.Link y) kind slots kinds names = absurd cc
links_same old new number (body.Link x) (body.Regular y) kind slots kinds names = absurd cc
links_same old new number (body.Link x) (body.Directory y) kind slots kinds names = absurd cc
links_same old new number (body.Link x) (body.Link y) kind slots kinds names = names

-- an object's attributes after its own fields and its size
abbrev pub inode_with : Inode → Object → Inode
inode_with i o =
    record i {
      mode = o.mode;
      uid = o.uid;
      gid = o.gid;
      size = size_of o.body;
      atime = o.atime;
      mtime = o.mtime;
      ctime = o.ctime;
    }

-- an object keeps its kind and its slots
pub record KeepsKind (o p : Object) : Type 0 where
  pub kind : kind_of p.body ≡ kind_of o.body
  pub slots : slots_within p.body ≡ slots_within o.body

set_inode_is : (tree : Tree) (number : ℕ) (o p : Object) (i : Inode) → place tree number ≡ Some o
    → i ≡ inode_of tree number o → KeepsKind o p
    → inode_of (set tree number (Some p)) number p ≡ inode_with i p
set_inode_is tree number o p i at is keeps =
    let new = set tree number (Some p) in
    let same = directories o.body p.body keeps.kind in
    let names : (k : ℕ) → names_in k (slots_within p.body)
    ≡ names_in k (slots_within o.body) = λ (k : ℕ). ap (names_in k) keeps.slots in
    let kinds = kinds_set tree number o p at same in
    same_inode (inode_of new number p) (inode_with i p)
    (keeps.kind ∙ sym (ap (λ (j : Inode). j.kind) is)) refl refl refl
    (links_same tree new number o.body p.body keeps.kind keeps.slots (λ k named. kinds k)
    (names_of_set tree number o p at names number) ∙ sym (ap (λ (j : Inode). j.links) is))
    (parent_kept tree new number (kinds number)
    (λ dir. names_at_set tree number o p at names dir number)
    ∙ sym (ap (λ (j : Inode). j.parent) is))
    refl
    (ap (λ (s : Slots). length s) keeps.slots ∙ sym (ap (λ (j : Inode). j.slots) is)) refl refl refl

-- the attributes of a changed object
pub changed_inode : (tree : Tree) (number : ℕ) (f : Object → Object) (i : Inode)
    → IsInode tree number i → KeepsKind (object_at tree number) (f (object_at tree number))
    → inode_of (change tree number f) number (f (object_at tree number))
    ≡ inode_with i (f (object_at tree number))
changed_inode tree number f i is keeps =
    let o = object_at tree number in
    ap (λ (t : Tree). inode_of t number (f o)) (change_is tree number f o is.at)
    ∙ set_inode_is tree number o (f o) i is.at is.is keeps

-- and the Put of them
pub changed_put : (tree : Tree) (number : ℕ) (f : Object → Object) (i j : Inode)
    → IsInode tree number i → KeepsKind (object_at tree number) (f (object_at tree number))
    → j ≡ inode_with i (f (object_at tree number))
    → set_by (change tree number f) (cell.Object number ∷ [])
    ≡ change.Put (cell.Object number) (value.Object j) ∷ []
changed_put tree number f i j is keeps e =
    let o = object_at tree number in
    let new = change tree number f in
    let own : object_value new number (place new number) ≡ Some (value.Object j) =
    ap (object_value new number) (place_changed tree number f o is.at)
    ∙ ap (λ (x : Inode). Some (value.Object x))
    (changed_inode tree number f i is keeps ∙ sym e) in
    λ k. change_to (cell.Object number) (own k) ∷ []

-- the totals after a change of an object's size
pub changed_totals : (tree : Tree) (number : ℕ) (f : Object
    → Object) (i : Inode) (totals : Totals) (used : ℕ) → IsInode tree number i
    → totals ≡ totals_of tree
    → replaced_blocks totals.used i.size (size_of (f (object_at tree number)).body) ≡ Ok used
    → totals_of (change tree number f) ≡ record { next = totals.next; used = used }
changed_totals tree number f i totals used is are room =
    let o = object_at tree number in
    let u = replaced_is totals.used i.size (size_of (f o).body) used room in
    let size : blocks_of i.size ≡ blocks_of (size_of o.body) =
    ap (λ (j : Inode). blocks_of j.size) is.is in
    let next : length (change tree number f) ≡ totals.next = length-change tree number f
    ∙ sym (ap (λ (x : Totals). x.next) are) in
    let used_is : used_blocks (change tree number f) ≡ used =
    omega (arith, used_change tree number f o is.at, u.is, size, ap (λ (x : Totals). x.used) are) in
    λ k. record { next = next k; used = used_is k }

-- and where it keeps its size
pub unchanged_totals : (tree : Tree) (number : ℕ) (f : Object
    → Object) (i : Inode) (totals : Totals) → IsInode tree number i → totals ≡ totals_of tree
    → size_of (f (object_at tree number)).body ≡ size_of (object_at tree number).body
    → totals_of (change tree number f) ≡ totals
unchanged_totals tree number f i totals is are same =
    let o = object_at tree number in
    let next : length (change tree number f) ≡ totals.next = length-change tree number f
    ∙ sym (ap (λ (x : Totals). x.next) are) in
    let used_is : used_blocks (change tree number f) ≡ totals.used =
    omega (
      arith,
      used_change tree number f o is.at,
      ap blocks_of same,
      ap (λ (x : Totals). x.used) are,
    ) in
    λ k. record { next = next k; used = used_is k }
