-- An object that loses an entry, and the directory that the entry is taken away from.
use Rattle.std.proofs.Common.{◌≡◌, ℕ, ◌+◌, ◌*◌, ◌-◌, ◌<◌, ◌≤◌, ◌==◌, ◌&&◌, not, Bool, true, false, cond, List, [], ◌∷◌, ◌++◌, length, get_or, set, ◌⊎◌, Option, Some, None, refl, sym, ap, ◌∙◌, subst, arith, inl, inr}
use Rattle.std.proofs.lemmas.Bool.{cases_eq, cases_Bool, cases_lt, le-leb, lt-leb, false_from_ne_true}
use Rattle.std.proofs.lemmas.List.{length-set, get_or-set_same}
use Rattle.harp_types.specs.declared.attr.Kind.{Kind}
use Rattle.harp_types.specs.declared.attr.Kind.TheVariants as kind
use Rattle.harp_types.specs.declared.attr.Time.{Time}
use Rattle.file_tree.specs.declared.object.Slot.{Slot}
use Rattle.file_tree.specs.declared.object.Body.{Body}
use Rattle.file_tree.specs.declared.object.Body.TheVariants.{Regular, Directory, Link}
use Rattle.file_tree.specs.declared.object.Object.{Object}
use Rattle.file_tree.specs.Tree.{Tree, Slots, place, slots_of, slots_within, kind_of, size_of, blocks_of, blocks_at, used_blocks, names_in, names_at, names_of, is_directory, is_directory_at, parent_of}
use Rattle.file_tree.specs.Outcome.{change, slot_changed, slot_replaced, reslotted, set_ctime, lost_entry, removed}
use Rattle.file_tree.specs.Sound.{IsSound}
use Rattle.file_tree.proofs.Holders.{Holds}
use Rattle.file_tree.proofs.SlotLaws.{IsFound, found}
use Rattle.file_tree.proofs.TryLaws.{directory_is}
use Rattle.file_tree.proofs.WaysUp.{IsBare}
use Rattle.file_tree.proofs.SoundChanges.{few_at, one_itself, one_other}
use Rattle.file_tree.proofs.SoundMoves.{sound_removed, cleared_names, names_at-le, found_held}
use Rattle.harp_cells.specs.declared.value.Inode.{Inode}
use Rattle.harp_cells.specs.declared.value.Value.TheVariants as value
use Rattle.harp_cells.specs.declared.cell.Cell.TheVariants as cell
use Rattle.harp_cells.specs.declared.change.Change.{Change}
use Rattle.harp_cells.specs.declared.change.Change.TheVariants as change
use Rattle.harp_cells.specs.CellsOfTree.{content_of, object_value, slot_value}
use Rattle.cell_changes.specs.Table.{change_to, set_by, content_size, erases, loses, takes}
use Rattle.nfs_calls.specs.declared.parts.totals.Totals.{Totals}
use Rattle.nfs_calls.specs.TreeCells.{IsInode, IsDirectory, object_at, bytes_within}
use Rattle.nfs_calls.specs.Plans.{totals_of}
use Rattle.nfs_calls.specs.Entries.{is_directory_kind, link_of, relinked, unlinked, is_last, erasure, loss, after_loss, IsTaking}
use Rattle.nfs_calls.proofs.Inodes as inodes
use Rattle.nfs_calls.proofs.Inodes.{kind_is}
use Rattle.nfs_calls.proofs.Sets.{IsSet, place_at, place_other, length_on, names_on, used_on, holds_on, kinds_on, set_by_change, set_by_last, set_by_loss}
use Rattle.nfs_calls.proofs.Entries.{subdirectories, subdirectories_set, share_of_found, no_parent, slots_at, directory_after, object_after, file_links}

-- ---- kinds

kind_tells : (b : Body) → is_directory_kind (kind_of b) ≡ is_directory b
kind_tells (Regular bytes) = refl
kind_tells (Directory slots) = refl
kind_tells (Link text) = refl

pub stored_kind : (tree : Tree) (number : ℕ) (i : Inode) → IsInode tree number i
    → is_directory_kind i.kind ≡ is_directory (object_at tree number).body
stored_kind tree number i is = ap is_directory_kind (sym (kind_is tree number i is))
    ∙ kind_tells (object_at tree number).body

-- whether an object is a directory is told by its attributes
pub kind_at : (tree : Tree) (number : ℕ) (i : Inode) → IsInode tree number i
    → is_directory_kind i.kind ≡ is_directory_at (place tree number)
kind_at tree number i is = stored_kind tree number i is ∙ sym (ap is_directory_at is.at)

no_directory : (k : Kind) → is_directory_kind k ≡ false → k ≡ kind.Directory → ⊥
no_directory k e h = let t : is_directory_kind k ≡ true = ap is_directory_kind h in absurd cc

pub body_at : (tree : Tree) (number : ℕ) (i : Inode) → IsDirectory tree number i
    → (object_at tree number).body ≡ Directory (slots_of (place tree number))
body_at tree number i is =
    let d = directory_is tree number (slots_of (place tree number)) is.lists in
    let same : Some (object_at tree number) ≡ Some d.object = sym is.own.at ∙ d.at in
    let one_object : object_at tree number ≡ d.object = cc in
    ap (λ (o : Object). o.body) one_object ∙ d.body

-- ---- changes by a tree

pub put_of : (new : Tree) (number : ℕ) (j : Inode) → IsInode new number j
    → set_by new (cell.Object number ∷ []) ≡ change.Put (cell.Object number) (value.Object j) ∷ []
put_of new number j is =
    ap (λ (x : Option Object). change_to (cell.Object number) (object_value new number x)
    ∷ []) is.at
    ∙ ap (λ (i : Inode). change.Put (cell.Object number) (value.Object i) ∷ []) (sym is.is)

pub slot_by : (new : Tree) (dir slot : ℕ) (o : Object) (slots : Slots) (s : Option Slot)
    → place new dir ≡ Some o → o.body ≡ Directory slots
    → get_or slots slot None ≡ s → set_by new (cell.Slot dir slot ∷ [])
    ≡ change_to (cell.Slot dir slot) (slot_value s) ∷ []
slot_by new dir slot o slots s at body is =
    ap (λ (x : Option Object). change_to (cell.Slot dir slot)
    (slot_value (get_or (slots_of x) slot None)) ∷ []) at
    ∙ ap (λ (b : Body). change_to (cell.Slot dir slot)
    (slot_value (get_or (slots_within b) slot None)) ∷ []) body
    ∙ ap (λ (x : Option Slot). change_to (cell.Slot dir slot) (slot_value x) ∷ []) is

-- ---- an object that loses an entry

-- it goes with its last entry, or stays with one entry less
pub record IsLoss (old before after : Tree) (number : ℕ) (i : Inode) (now : Time) : Type 0 where
  pub becomes : Option Object
  pub sets : IsSet before after number (Some (object_at old number)) becomes
  pub file : is_directory_at becomes ≡ false
  pub bare : (k : ℕ) → names_at k becomes ≡ 0
  pub either : ((is_last i ≡ true) × (becomes ≡ None))
      ⊎ ((is_last i ≡ false) × (becomes ≡ Some (set_ctime now (object_at old number)))
      × (is_directory (object_at old number).body ≡ false))

pub loss_of : (old before : Tree) (number : ℕ) (i : Inode) (now : Time) → IsSound old
    → IsInode old number i → IsBare old number
    → place before number ≡ Some (object_at old number)
    → names_of before number + 1 ≡ names_of old number
    → IsLoss old before (lost_entry before number now) number i now
loss_of old before number i now sound is bare at count =
    let o = object_at old number in
    let kind = stored_kind old number i is in
    let here : (k : ℕ) → names_at k (Some o) ≡ 0 = λ (k : ℕ). sym (ap (names_at k) is.at)
    ∙ bare k in
    elim (cases_Bool (is_directory o.body)) [
      | inl d ↦
          let few =
          few_at number (place old number) (names_of old number) (ap is_directory_at is.at ∙ d)
          (sound.entries number) in
          let none : names_of before number ≡ 0 = omega (arith, few, count) in
          record {
            becomes = None;
            sets = set_by_last before number o now at none;
            file = refl;
            bare = λ k. refl;
            either = inl (rw (kind ∙ d) refl, refl);
          }
      | inr d ↦
          let links : i.links ≡ names_of old number = ap (λ (j : Inode). j.links) is.is
          ∙ file_links old number o.body d in
          elim (cases_lt 0 (names_of before number)) [
            | inl some ↦ record {
              becomes = Some (set_ctime now o);
              sets = set_by_loss before number o now at some;
              file = d;
              bare = here;
              either = let more : 1 < i.links = omega (arith, some, count, links) in
                  inr (rw (kind ∙ d, lt-leb i.links 1 more) refl, refl, d);
            }
            | inr none ↦ record {
              becomes = None;
              sets = set_by_last before number o now at (omega (arith, none));
              file = refl;
              bare = λ k. refl;
              either = let less : i.links ≤ 1 = omega (arith, none, count, links) in
                  inl (rw (kind ∙ d, le-leb i.links 1 less) refl, refl);
            }
          ]
    ]

nothing_within : (b : Body) → is_directory b ≡ true → bytes_within b ≡ []
nothing_within (Directory slots) d = refl
nothing_within (Regular bytes) d = absurd cc
nothing_within (Link text) d = absurd cc

flipped : (b : Bool) (cs : List Change) → cond b [] cs ≡ cond (true && not b) cs []
flipped true cs = refl
flipped false cs = refl

erased : (tree : Tree) (number : ℕ) (i : Inode) → IsInode tree number i
    → erases tree number ≡ erasure number i
erased tree number i is =
    let o = object_at tree number in
    let kind = stored_kind tree number i is in
    elim (cases_Bool (is_directory o.body)) [
      | inl d ↦
          let nothing : content_of (Some o) ≡ [] = inodes.content_within o
          ∙ nothing_within o.body d in
          let size : content_size tree number ≡ 0 =
          ap (λ (x : Option Object). length (content_of x)) is.at ∙ ap length nothing in
          rw (kind ∙ d, size) refl
      | inr d ↦
          let size : content_size tree number ≡ i.size =
          inodes.content_size tree number i is (no_directory i.kind (kind ∙ d)) in
          rw (kind ∙ d, size) (flipped (i.size == 0) (change.EraseFrom number 0 ∷ []))
    ]

-- the changes of the table are those that its stored attributes tell
pub loses_is : (old before after new : Tree) (number : ℕ) (i : Inode) (now : Time)
    → IsInode old number i
    → (l : IsLoss old before after number i now) → place new number ≡ l.becomes
    → names_of new number + 1 ≡ names_of old number
    → loses old new number ≡ loss number i now
unfolding loses
loses_is old before after new number i now is l at count =
    let o = object_at old number in
    elim l.either [
      | inl gone ↦
          rw (at ∙ gone.1, gone.0) (ap
          (λ (cs : List Change). cs ++ change.Erase (cell.Object number) ∷ [])
          (erased old number i is))
      | inr stays ↦
          let there : place new number ≡ Some (set_ctime now o) = at ∙ stays.1 in
          let file : is_directory o.body ≡ false = stays.2 in
          let links : i.links ≡ names_of old number = ap (λ (j : Inode). j.links) is.is
          ∙ file_links old number o.body file in
          let left : i.links - 1 ≡ names_of new number = omega (arith, links, count) in
          let parent : i.parent ≡ parent_of new number =
          ap (λ (j : Inode). j.parent) is.is
          ∙ no_parent old number (ap is_directory_at is.at ∙ file)
          ∙ sym (no_parent new number (ap is_directory_at there ∙ file)) in
          let put =
          put_of new number (unlinked now i)
          (object_after old new number i now (i.links - 1) i.parent is there
          (left ∙ sym (file_links new number o.body file)) parent) in
          rw stays.0
          (ap (λ (x : Option Object). elim x [ None ↦ erases old number | Some p ↦ [] ]
          ++ set_by new (cell.Object number ∷ [])) there ∙ put)
    ]

pub totals_lost : (old before after : Tree) (number : ℕ) (i : Inode) (now : Time)
    → IsInode old number i → IsLoss old before after number i now
    → after_loss (totals_of before) i ≡ totals_of after
totals_lost old before after number i now is l =
    let size : blocks_at (Some (object_at old number)) ≡ blocks_of i.size =
    ap blocks_of (sym (ap (λ (j : Inode). j.size) is.is)) in
    let used = used_on l.sets in
    let next = length_on l.sets in
    elim l.either [
      | inl gone ↦
          let nothing : blocks_at l.becomes ≡ 0 = ap blocks_at gone.1 in
          let less : used_blocks before - blocks_of i.size ≡ used_blocks after =
          omega (arith, size, used, nothing) in
          rw gone.0 (rw (less, next) refl)
      | inr stays ↦
          let same : blocks_at l.becomes ≡ blocks_at (Some (object_at old number)) =
          ap blocks_at stays.1 in
          let all : used_blocks before ≡ used_blocks after = omega (arith, same, used) in
          rw stays.0 (rw (all, next) refl)
    ]

-- ---- an entry is taken away

-- slots with one freed name the others
pub left_names : (tree : Tree) (slots : Slots) (name : List ℕ) (x : ℕ × ℕ) → IsFound slots name x
    → (k : ℕ) → (k ≡ x.1 → ⊥)
    → names_in k (set slots x.0 None) ≡ names_in k slots
left_names tree slots name x f k ne =
    omega (arith, cleared_names slots name x k f, one_other x.1 k ne)

-- a directory that an entry names has no other one
pub named_once : (tree : Tree) (dir : ℕ) (slots : Slots) (name : List ℕ) (x : ℕ × ℕ) → IsSound tree
    → slots_of (place tree dir) ≡ slots → IsFound slots name x
    → is_directory_at (place tree x.1) ≡ true → names_in x.1 (set slots x.0 None) ≡ 0
named_once tree dir slots name x sound is f d =
    let few = few_at x.1 (place tree x.1) (names_of tree x.1) d (sound.entries x.1) in
    let here : names_at x.1 (place tree dir) ≡ names_in x.1 slots = ap (names_in x.1) is in
    omega (
      arith,
      few,
      here,
      names_at-le tree dir x.1,
      cleared_names slots name x x.1 f,
      one_itself x.1,
    )

link_within : (k : Kind) → link_of k ≤ 1
link_within kind.Directory = omega arith
link_within kind.Regular = omega arith
link_within kind.Link = omega arith

pub link-le : (i : Inode) → link_of i.kind ≤ 1
link-le i = link_within i.kind

pub link_share : (tree : Tree) (number : ℕ) (j : Inode) → IsInode tree number j
    → link_of j.kind ≡ cond (is_directory_at (place tree number)) 1 0
link_share tree number j is = ap (λ (b : Bool). cond b 1 0) (kind_at tree number j is)

-- links less one for a directory
pub links_freed : (tree : Tree) (dir : ℕ) (slots : Slots) (name : List ℕ) (x : ℕ × ℕ) (i j : Inode)
    → IsFound slots name x → IsInode tree x.1 j
    → i.links ≡ 2 + subdirectories tree slots
    → i.links - link_of j.kind ≡ 2 + subdirectories tree (set slots x.0 None)
links_freed tree dir slots name x i j f is l =
    omega (
      arith,
      l,
      link_share tree x.1 j is,
      share_of_found tree slots name x f,
      subdirectories_set tree slots x.0 None f.within,
    )

-- the changes that take an entry away
pub record IsTaken (tree new : Tree) (dir : ℕ) (i : Inode) (x : ℕ × ℕ) (j : Inode)
    (now : Time) : Type 0 where
  pub changes : takes tree new dir (Some x) ≡ change.Erase (cell.Slot dir x.0)
      ∷ change.Put (cell.Object dir) (value.Object (relinked now (i.links - link_of j.kind) i))
      ∷ loss x.1 j now
  pub totals : after_loss (totals_of tree) j ≡ totals_of new

pub taken : (tree : Tree) (dir : ℕ) (i : Inode) (name : List ℕ) (x : ℕ × ℕ) (j : Inode) (now : Time)
    → IsTaking tree dir i name x j
    → IsTaken tree (removed tree dir x now) dir i x j now
taken tree dir i name x j now is =
    let o = object_at tree dir in
    let slots = slots_of (place tree dir) in
    let body : o.body ≡ Directory slots = body_at tree dir i is.directory in
    let at = is.directory.own.at in
    let f = found slots name x is.entry in
    let without = set slots x.0 None in
    let cleared = change tree dir (slot_changed now x.0 None) in
    let new = removed tree dir x now in
    let held = found_held tree dir o slots name x at body f in
    let apart : x.1 ≡ dir → ⊥ = λ (e : x.1 ≡ dir). let none = is.bare x.1 in
    let some : Holds tree x.1 x.1 = subst (λ (n : ℕ). Holds tree n x.1) (sym e) held in
    omega (arith, none, some) in
    let s = set_by_change tree dir (slot_changed now x.0 None) o at in
    let changed : slot_changed now x.0 None o ≡ reslotted now without o =
    ap (λ (b : Body). record o {
      mtime = now;
      ctime = now;
      body = slot_replaced b x.0 None;
    }) body in
    let own : (k : ℕ) → names_at k (Some o)
    ≡ names_in k slots = λ (k : ℕ). ap (λ (b : Body). names_in k (slots_within b)) body in
    let then : (k : ℕ) → names_at k (Some (slot_changed now x.0 None o))
    ≡ names_in k without = λ (k : ℕ). ap (λ (p : Object). names_at k (Some p)) changed in
    let count : names_of cleared x.1 + 1 ≡ names_of tree x.1 =
    omega (
      arith,
      names_on s x.1,
      own x.1,
      then x.1,
      cleared_names slots name x x.1 f,
      one_itself x.1,
    ) in
    let l = loss_of tree cleared x.1 j now is.sound is.object is.bare
    (place_other s x.1 apart ∙ is.object.at) count in
    let there : place new dir ≡ Some (reslotted now without o) =
    place_other l.sets dir (λ e. apart (sym e)) ∙ place_at s ∙ ap Some changed in
    let old_bare : (k : ℕ) → names_at k (Some (object_at tree x.1))
    ≡ 0 = λ (k : ℕ). sym (ap (names_at k) is.object.at) ∙ is.bare k in
    let whole : IsSound new =
    sound_removed tree dir o slots name x now is.sound at body f is.bare in
    let kept : (d : ℕ) → Holds tree d dir → Holds new d dir = λ (d : ℕ) (h : Holds tree d dir).
    holds_on l.sets dir (omega (arith, l.bare dir, old_bare dir)) d
    (holds_on s dir (omega (
      arith,
      own dir,
      then dir,
      left_names tree slots name x f dir (λ e. apart (sym e)),
    )) d h) in
    let same_kind : is_directory_at (Some (slot_changed now x.0 None o))
    ≡ is_directory_at (Some o) = ap (λ (p : Object). is_directory p.body) changed
    ∙ sym (ap is_directory body) in
    let kinds : (k : ℕ) → 1 ≤ names_in k without
    → is_directory_at (place new k)
    ≡ is_directory_at (place tree k) = λ (k : ℕ) (h : 1 ≤ names_in k without).
    elim (cases_eq k x.1) [
      | inl e ↦
          let file : is_directory_at (place tree x.1) ≡ false = false_from_ne_true _ (λ d.
          let some : 1 ≤ names_in x.1 without = subst (λ (n : ℕ). 1 ≤ names_in n without) e h in
          omega (arith, some, named_once tree dir slots name x is.sound refl f d)) in
          rw e (ap is_directory_at (place_at l.sets) ∙ l.file ∙ sym file)
      | inr ne ↦ ap is_directory_at (place_other l.sets k ne) ∙ kinds_on s same_kind k
    ] in
    let stored = slots_at tree dir i slots is.directory.own body in
    let long = length-set slots x.0 None in
    let dir_is : IsInode new dir (relinked now (i.links - link_of j.kind) i) =
    directory_after tree new dir i slots without now
    (i.links - link_of j.kind) i.size i.slots is.sound whole is.directory.own body there kept kinds
    (links_freed tree dir slots name x i j f is.object stored.0)
    (stored.1 ∙ ap (λ (n : ℕ). 264 * n) (sym long)) (stored.2 ∙ sym long) in
    let slot =
    slot_by new dir x.0 (reslotted now without o) without None there refl
    (get_or-set_same slots x.0 None None f.within) in
    let after : names_of new x.1 + 1 ≡ names_of tree x.1 =
    omega (arith, count, names_on l.sets x.1, old_bare x.1, l.bare x.1) in
    let left = loses_is tree cleared new new x.1 j now is.object l (place_at l.sets) after in
    let blocks : blocks_at (Some (slot_changed now x.0 None o)) ≡ blocks_at (Some o) =
    ap (λ (p : Object). blocks_of (size_of p.body)) changed
    ∙ ap (λ (n : ℕ). blocks_of (264 * n)) long
    ∙ sym (ap (λ (b : Body). blocks_of (size_of b)) body) in
    let used : used_blocks cleared ≡ used_blocks tree = omega (arith, used_on s, blocks) in
    record {
      changes =
          ap (λ (cs : List Change). cs ++ set_by new (cell.Object dir ∷ [])
          ++ loses tree new x.1) slot
          ∙ ap (λ (cs : List Change). change.Erase (cell.Slot dir x.0) ∷ (cs ++ loses tree new x.1))
          (put_of new dir _ dir_is)
          ∙ ap (λ (cs : List Change). change.Erase (cell.Slot dir x.0)
          ∷ change.Put (cell.Object dir)
          (value.Object (relinked now (i.links - link_of j.kind) i)) ∷ cs) left;
      totals =
          ap (λ (t : Totals). after_loss t j) (rw (used, length_on s) refl)
          ∙ totals_lost tree cleared new x.1 j now is.object l;
    }
