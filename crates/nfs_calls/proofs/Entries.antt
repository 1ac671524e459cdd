-- The attributes of directories and of what their entries name, after entries were taken away,
-- added and replaced.
use Rattle.std.proofs.Common.{◌≡◌, ℕ, ◌+◌, ◌*◌, ◌<◌, ◌≤◌, Bool, false, cond, List, [], ◌∷◌, length, get_or, set, count_by, sum_by, Option, Some, None, refl, sym, ap, ◌∙◌, arith, inl, inr}
use Rattle.std.proofs.lemmas.Bool.{cases_eq, eq-eqb}
use Rattle.std.proofs.lemmas.List.Sums.{sum_by-cons, sum_by-set}
use Rattle.harp_types.specs.declared.attr.Time.{Time}
use Rattle.file_tree.specs.declared.object.Slot.{Slot}
use Rattle.file_tree.specs.declared.object.Body.{Body}
use Rattle.file_tree.specs.declared.object.Body.TheVariants.{Regular, Directory, Link}
use Rattle.file_tree.specs.declared.object.Object.{Object}
use Rattle.file_tree.specs.Tree.{Tree, Slots, place, slots_within, kind_of, size_of, names_in, names_of, is_directory, is_directory_at, is_subdirectory, links_of, parent_of, with_entry}
use Rattle.file_tree.specs.Outcome.{reslotted, set_ctime}
use Rattle.file_tree.specs.Sound.{IsSound}
use Rattle.file_tree.proofs.Holders.{Holds, IsDirectory, parent_is, parent_holds, parent_of_root}
use Rattle.file_tree.proofs.SlotLaws.{share, IsFound}
use Rattle.harp_cells.specs.declared.value.Inode.{Inode}
use Rattle.harp_cells.specs.CellsOfTree.{inode_of}
use Rattle.nfs_calls.specs.TreeCells.{IsInode, inode_placed, inode_of_some, object_at}
use Rattle.nfs_calls.proofs.Inodes.{is_inode}

pub inode_by : (tree : Tree) (number : ℕ) (p : Object) (j : Inode) → place tree number ≡ Some p
    → j ≡ inode_of tree number p → IsInode tree number j
unfolding inode_placed
inode_by tree number p j at e =
    is_inode tree number j (ap Some e ∙ sym (ap (inode_of_some tree number) at))

-- ---- subdirectories

-- 1 where a slot names a directory
abbrev pub directory_share : Tree → Option Slot → ℕ
directory_share tree s = cond (is_subdirectory tree s) 1 0

abbrev pub subdirectories : Tree → Slots → ℕ
subdirectories tree slots = count_by (is_subdirectory tree) slots

pub subdirectories_set : (tree : Tree) (slots : Slots) (i : ℕ) (s : Option Slot) → i < length slots
    → subdirectories tree (set slots i s) + directory_share tree (get_or slots i None)
    ≡ subdirectories tree slots + directory_share tree s
subdirectories_set tree slots i s lt = sum_by-set (directory_share tree) slots i s None lt

entered_in : (f : Option Slot → ℕ) (slots : Slots) (s : Slot) → f None ≡ 0
    → sum_by f (with_entry slots s) ≡ sum_by f slots + f (Some s)
unfolding with_entry
entered_in f [] s z = omega (arith, sum_by-cons f (Some s) [])
entered_in f (None ∷ slots) s z =
    omega (arith, z, sum_by-cons f (Some s) slots, sum_by-cons f None slots)
entered_in f (Some t ∷ slots) s z =
    omega (
      arith,
      sum_by-cons f (Some t) (with_entry slots s),
      sum_by-cons f (Some t) slots,
      entered_in f slots s z,
    )

pub subdirectories_entered : (tree : Tree) (slots : Slots) (s : Slot)
    → subdirectories tree (with_entry slots s)
    ≡ subdirectories tree slots + directory_share tree (Some s)
subdirectories_entered tree slots s = entered_in (directory_share tree) slots s refl

-- where what slots name keeps its kind, as many are directories
pub subdirectories_same : (old new : Tree) (slots : Slots)
    → ((k : ℕ) → 1 ≤ names_in k slots
    → is_directory_at (place new k) ≡ is_directory_at (place old k))
    → subdirectories new slots ≡ subdirectories old slots
subdirectories_same old new [] h = refl
subdirectories_same old new (None ∷ slots) h =
    omega (
      arith,
      sum_by-cons (directory_share new) None slots,
      sum_by-cons (directory_share old) None slots,
      subdirectories_same old new slots
          (λ k le. h k (omega (arith, le, sum_by-cons (share k) None slots))),
    )
subdirectories_same old new (Some s ∷ slots) h =
    let itself : share s.number (Some s) ≡ 1 = rw (eq-eqb s.number s.number refl) refl in
    let here : is_directory_at (place new s.number) ≡ is_directory_at (place old s.number) =
    h s.number (omega (arith, itself, sum_by-cons (share s.number) (Some s) slots)) in
    let same : directory_share new (Some s) ≡ directory_share old (Some s) =
    ap (λ (b : Bool). cond b 1 0) here in
    omega (
      arith,
      same,
      sum_by-cons (directory_share new) (Some s) slots,
      sum_by-cons (directory_share old) (Some s) slots,
      subdirectories_same old new slots
          (λ k le. h k (omega (arith, le, sum_by-cons (share k) (Some s) slots))),
    )

pub share_of_found : (tree : Tree) (slots : Slots) (name : List ℕ) (x : ℕ × ℕ)
    → IsFound slots name x
    → directory_share tree (get_or slots x.0 None) ≡ cond (is_directory_at (place tree x.1)) 1 0
share_of_found tree slots name x f =
    ap (directory_share tree) f.at ∙ ap
    (λ (n : ℕ). cond (is_directory_at (place tree n)) 1 0) f.number

-- ---- parents

pub parent_stays : (old new : Tree) (number : ℕ) → IsSound old → IsSound new
    → IsDirectory old number → IsDirectory new number
    → ((d : ℕ) → Holds old d number → Holds new d number)
    → parent_of new number ≡ parent_of old number
parent_stays old new number was is d dn kept = elim (cases_eq number 1) [
  | inl e ↦ rw e (parent_of_root new is.root ∙ sym (parent_of_root old was.root))
  | inr ne ↦
      parent_is new (parent_of old number) number is.entries dn ne
      (kept (parent_of old number) (parent_holds old number was.entries d ne))
]

pub no_parent : (tree : Tree) (number : ℕ) → is_directory_at (place tree number) ≡ false
    → parent_of tree number ≡ 0
unfolding parent_of
no_parent tree number e = rw e refl

-- ---- attributes

pub slots_at : (tree : Tree) (number : ℕ) (i : Inode) (slots : Slots) → IsInode tree number i
    → (object_at tree number).body ≡ Directory slots
    → (i.links ≡ 2 + subdirectories tree slots) × (i.size ≡ 264 * length slots)
    × (i.slots ≡ length slots)
unfolding links_of
slots_at tree number i slots is body = (
  ap (λ (j : Inode). j.links) is.is ∙ ap (links_of tree number) body,
  ap (λ (j : Inode). j.size) is.is ∙ ap size_of body,
  ap (λ (j : Inode). j.slots) is.is ∙ ap (λ (b : Body). length (slots_within b)) body,
)

-- a directory whose slots changed
pub directory_after : (old new : Tree) (number : ℕ) (i : Inode) (slots after : Slots) (now : Time)
    (links size count : ℕ)
    → IsSound old → IsSound new → IsInode old number i
    → (object_at old number).body ≡ Directory slots
    → place new number ≡ Some (reslotted now after (object_at old number))
    → ((d : ℕ) → Holds old d number → Holds new d number)
    → ((k : ℕ) → 1 ≤ names_in k after
    → is_directory_at (place new k) ≡ is_directory_at (place old k))
    → links ≡ 2 + subdirectories old after → size ≡ 264 * length after → count ≡ length after
    → IsInode new number (record i {
      links = links;
      size = size;
      slots = count;
      mtime = now;
      ctime = now;
    })
unfolding links_of
directory_after old new number i slots after now links size count was sound is body at kept kinds l
    s c =
    let o = object_at old number in
    let d : IsDirectory old number = ap is_directory_at is.at ∙ ap is_directory body in
    let dn : IsDirectory new number = ap is_directory_at at in
    let parent : parent_of new number ≡ parent_of old number =
    parent_stays old new number was sound d dn kept in
    let subs : subdirectories new after ≡ subdirectories old after =
    subdirectories_same old new after kinds in
    inode_by new number (reslotted now after o) _ at
    (ap (λ (k : Inode). record k {
      links = links;
      size = size;
      slots = count;
      mtime = now;
      ctime = now;
    }) is.is
    ∙ rw (ap kind_of body, parent, l, s, c, subs) refl)

-- an object that changed its ctime
pub object_after : (old new : Tree) (number : ℕ) (i : Inode) (now : Time) (links parent : ℕ)
    → IsInode old number i
    → place new number ≡ Some (set_ctime now (object_at old number))
    → links ≡ links_of new number (object_at old number).body → parent ≡ parent_of new number
    → IsInode new number (record i { links = links; parent = parent; ctime = now })
object_after old new number i now links parent is at l p =
    inode_by new number (set_ctime now (object_at old number)) _ at
    (ap (λ (k : Inode). record k { links = links; parent = parent; ctime = now }) is.is
    ∙ rw (l, p) refl)

-- the links of an object, where its entries are as many, and what its own entries name keeps its
-- kind
pub links_stay : (old new : Tree) (number : ℕ) (b : Body)
    → names_of new number ≡ names_of old number
    → ((k : ℕ) → 1 ≤ names_in k (slots_within b)
    → is_directory_at (place new k) ≡ is_directory_at (place old k))
    → links_of new number b ≡ links_of old number b
unfolding links_of
links_stay old new number (Directory slots) names kinds =
    ap (λ (n : ℕ). 2 + n) (subdirectories_same old new slots kinds)
links_stay old new number (Regular bytes) names kinds = names
links_stay old new number (Link text) names kinds = names

-- a file or a link has as many links as entries
pub file_links : (tree : Tree) (number : ℕ) (b : Body) → is_directory b ≡ false
    → links_of tree number b ≡ names_of tree number
unfolding links_of
file_links tree number (Directory slots) e = absurd cc
file_links tree number (Regular bytes) e = refl
file_links tree number (Link text) e = refl
