-- What the cells of objects stand for.
use Rattle.std.proofs.Common.{◌≤◌, min, take, drop, List, take_all, subst, ◌≡◌, ℕ, ◌==◌, true, false, cond, length, Option, Some, None, Ok, Err, refl, sym, ap, ◌∙◌, inl, inr}
use Rattle.std.proofs.lemmas.Bool.{cases_eq, cases_Bool, ne_eqb}
use Rattle.harp_types.specs.declared.attr.Kind.TheVariants as kind
use Rattle.file_tree.specs.declared.object.Body.{Body}
use Rattle.file_tree.specs.declared.object.Body.TheVariants.{Regular, Directory, Link}
use Rattle.file_tree.specs.declared.object.Object.{Object}
use Rattle.harp_types.specs.declared.cred.Cred.{Cred}
use Rattle.harp_types.specs.declared.reply.Status.TheVariants.{Stale}
use Rattle.file_tree.specs.Tree.{Tree, place, is_directory_at, attr_at, attr_zero, attr_of_place, used_blocks, size_of, kind_of}
use Rattle.file_tree.specs.Tries.{live, some_or, bytes_in, text_in}
use Rattle.file_tree.specs.Permissions.{reading, may, may_at, allowed}
use Rattle.file_tree.specs.Outcome.{read, read_link}
use Rattle.file_tree.specs.Sound.{IsSound, IsSoundBody, IsSoundObject}
use Rattle.harp_types.specs.declared.attr.Attr.{Attr}
use Rattle.harp_types.specs.declared.reply.Reply.TheVariants.{Bytes, Path}
use Rattle.harp_cells.specs.declared.value.Inode.{Inode}
use Rattle.harp_cells.specs.declared.value.Value.{Value}
use Rattle.harp_cells.specs.declared.cell.Cell.TheVariants as cell
use Rattle.harp_cells.specs.CellsOfTree.{object_value, stands_for, inode_of, content_of}
use Rattle.cell_changes.specs.TreeCells.{TreeCells}
use Rattle.nfs_calls.specs.TreeCells.{IsInode, inode_found, inode_of_some, inode_placed, totals_found, object_at, object_or_zero, attr_by, root_inode, bytes_within}

found_itself : (tree : Tree) (number : ℕ) (v : Option Value)
    → inode_found number (stands_for tree (cell.Object number) v) ≡ inode_found number v
found_itself tree number None = elim (cases_Bool (number == 1)) [
  | inl t ↦ rw t refl
  | inr t ↦ rw t (ap (λ (b : _). cond b (Some root_inode) None) t)
]
found_itself tree number (Some v) = refl

found_placed : (tree : Tree) (number : ℕ) (x : Option Object)
    → is_directory_at (place tree 1) ≡ true
    → place tree number ≡ x → inode_found number (object_value tree number x)
    ≡ inode_of_some tree number x
found_placed tree number None root at =
    let no_directory : is_directory_at (place tree number) ≡ false = ap is_directory_at at in
    elim (cases_eq number 1) [
      | inl e ↦ let at_root : is_directory_at (place tree 1) ≡ false = rw e at no_directory in
          absurd cc
      | inr ne ↦ let t : (number == 1) ≡ false = ne_eqb number 1 ne in rw t refl
    ]
found_placed tree number (Some o) root at = refl

-- what is read in an object's cell is the object's
pub inode_read : (t : TreeCells) (number : ℕ)
    → inode_found number (t.cells (cell.Object number)) ≡ inode_placed t.tree number
unfolding inode_placed
inode_read t number =
    sym (found_itself t.tree number (t.cells (cell.Object number)))
    ∙ ap (inode_found number) (t.stand.object number)
    ∙ found_itself t.tree number (object_value t.tree number (place t.tree number))
    ∙ found_placed t.tree number (place t.tree number) t.sound.root refl

inode_some : (tree : Tree) (number : ℕ) (x : Option Object) (i : Inode) → place tree number ≡ x
    → Some i ≡ inode_of_some tree number x → IsInode tree number i
unfolding object_at
inode_some tree number None i at e = absurd cc
inode_some tree number (Some o) i at e = record {
  at = at ∙ ap Some (sym (ap object_or_zero at));
  is = let same : i ≡ inode_of tree number o = cc in
      same ∙ ap (inode_of tree number) (sym (ap object_or_zero at));
}

pub is_inode : (tree : Tree) (number : ℕ) (i : Inode) → Some i ≡ inode_placed tree number
    → IsInode tree number i
unfolding inode_placed
is_inode tree number i e = inode_some tree number (place tree number) i refl e

inode_none : (tree : Tree) (number : ℕ) (x : Option Object) → None ≡ inode_of_some tree number x
    → x ≡ None
inode_none tree number None e = refl
inode_none tree number (Some o) e = absurd cc

pub no_inode : (tree : Tree) (number : ℕ) → None ≡ inode_placed tree number
    → place tree number ≡ None
unfolding inode_placed
no_inode tree number e = inode_none tree number (place tree number) e

pub attr_is : (tree : Tree) (number : ℕ) (i : Inode) → IsInode tree number i
    → attr_by number i ≡ attr_at tree number
unfolding attr_at
attr_is tree number i is = rw (is.at, is.is) refl

pub live_is : (tree : Tree) (number : ℕ) (i : Inode) → IsInode tree number i
    → live tree number ≡ Ok (object_at tree number)
live_is tree number i is = ap (some_or Stale) is.at

pub live_none : (tree : Tree) (number : ℕ) → None ≡ inode_placed tree number
    → live tree number ≡ Err Stale
live_none tree number e = ap (some_or Stale) (no_inode tree number e)

pub attr_none : (tree : Tree) (number : ℕ) → None ≡ inode_placed tree number
    → attr_zero ≡ attr_at tree number
unfolding attr_at
attr_none tree number e = sym (ap (attr_of_place tree number) (no_inode tree number e))

pub attr_some : (tree : Tree) (number : ℕ) (i : Inode) → Some i ≡ inode_placed tree number
    → attr_by number i ≡ attr_at tree number
attr_some tree number i e = attr_is tree number i (is_inode tree number i e)

pub ruleset attrs_are = (attr_none, attr_some)

totals_itself : (tree : Tree) (v : Option Value)
    → totals_found (stands_for tree cell.Meta v) ≡ totals_found v
totals_itself tree None = refl
totals_itself tree (Some v) = refl

-- what is read in the cell of the whole tree
pub totals_read : (t : TreeCells) → totals_found (t.cells cell.Meta)
    ≡ record { next = length t.tree; used = used_blocks t.tree }
totals_read t = sym (totals_itself t.tree (t.cells cell.Meta)) ∙ ap totals_found t.stand.meta

size_within : (b : Body) → (kind_of b ≡ kind.Directory → ⊥) → length (bytes_within b) ≡ size_of b
size_within (Regular bytes) ne = refl
size_within (Directory slots) ne = absurd (ne refl)
size_within (Link text) ne = refl

-- what an object's blocks hold
pub content_within : (o : Object) → content_of (Some o) ≡ bytes_within o.body
content_within o = refl

-- the size of a file or a link is that of its content
pub content_size : (tree : Tree) (number : ℕ) (i : Inode) → IsInode tree number i
    → (i.kind ≡ kind.Directory → ⊥)
    → length (content_of (place tree number)) ≡ i.size
content_size tree number i is ne =
    let o = object_at tree number in
    let kinds : i.kind ≡ kind_of o.body = ap (λ (j : Inode). j.kind) is.is in
    ap (λ (x : Option Object). length (content_of x)) is.at
    ∙ ap length (content_within o)
    ∙ size_within o.body (λ e. ne (kinds ∙ e))
    ∙ sym (ap (λ (j : Inode). j.size) is.is)

pub kind_is : (tree : Tree) (number : ℕ) (i : Inode) → IsInode tree number i
    → kind_of (object_at tree number).body ≡ i.kind
kind_is tree number i is = sym (ap (λ (j : Inode). j.kind) is.is)

pub content_at : (tree : Tree) (number : ℕ) (i : Inode) → IsInode tree number i
    → content_of (place tree number) ≡ bytes_within (object_at tree number).body
content_at tree number i is = ap content_of is.at

-- what a caller may do with an object, by its stored attributes
pub may_stored : (tree : Tree) (cred : Cred) (number want : ℕ) (i : Inode) → IsInode tree number i
    → may_at cred (place tree number) want ≡ may cred i.mode i.uid i.gid want
may_stored tree cred number want i is =
    ap (λ (x : Option Object). may_at cred x want) is.at
    ∙ sym (ap (λ (j : Inode). may cred j.mode j.uid j.gid want) is.is)

pub read_is : (tree : Tree) (cred : Cred) (number offset count : ℕ) (i : Inode) (attr : Attr)
    (bytes : List ℕ) → IsInode tree number i
    → bytes_in (object_at tree number).body ≡ Ok (bytes_within (object_at tree number).body)
    → allowed tree cred number reading ≡ Ok tt
    → attr ≡ attr_by number i → bytes
    ≡ take (min count 8192) (drop offset (content_of (place tree number)))
    → read tree cred number offset count ≡ Ok (Bytes attr bytes, tree)
unfolding read
read_is tree cred number offset count i attr bytes is file reads a b =
    rw (
      live_is tree number i is,
      file,
      reads,
      a,
      b,
      content_at tree number i is,
      attr_is tree number i is,
    ) refl

linked : (b : Body) → text_in b ≡ Ok (bytes_within b) → IsSoundBody b
    → length (bytes_within b) ≤ 1024
linked (Link text) e h = h
linked (Regular bytes) e h = absurd cc
linked (Directory slots) e h = absurd cc

pub sound_at : (tree : Tree) (number : ℕ) (i : Inode) → IsSound tree → IsInode tree number i
    → IsSoundBody (object_at tree number).body
sound_at tree number i sound is = (subst IsSoundObject is.at (sound.objects number)).1

pub read_link_is : (tree : Tree) (number : ℕ) (i : Inode) (text : List ℕ) → IsSound tree
    → IsInode tree number i
    → text_in (object_at tree number).body ≡ Ok (bytes_within (object_at tree number).body)
    → text ≡ take 1024 (drop 0 (content_of (place tree number)))
    → read_link tree number ≡ Ok (Path text, tree)
unfolding read_link
read_link_is tree number i text sound is link e =
    let short = linked (object_at tree number).body link (sound_at tree number i sound is) in
    let whole : text ≡ bytes_within (object_at tree number).body =
    e ∙ ap (take 1024) (content_at tree number i is)
    ∙ take_all 1024 (bytes_within (object_at tree number).body) short in
    rw (live_is tree number i is, link, whole) refl
