-- The plans of calls that set a file's attributes or bytes.
use Rattle.std.proofs.Common.{◌≡◌, ℕ, ◌==◌, Bool, true, false, cond, List, [], ◌∷◌, ◌++◌, length, Option, Some, None, Ok, refl, sym, ap, ◌∙◌, arith, inl, inr}
use Rattle.std.proofs.lemmas.Bool.{cases_Bool, eqb-false}
use Rattle.std.proofs.lemmas.List.{length-append, length-take, length-replicate}
use Rattle.harp_types.specs.declared.attr.Attr.{Attr}
use Rattle.harp_types.specs.declared.attr.Kind.{Kind}
use Rattle.harp_types.specs.declared.attr.Kind.TheVariants as kind
use Rattle.harp_types.specs.declared.attr.SetAttr.{SetAttr}
use Rattle.harp_types.specs.declared.attr.Time.{Time}
use Rattle.harp_types.specs.declared.call.Call.TheVariants as call
use Rattle.harp_types.specs.declared.cred.Cred.{Cred}
use Rattle.harp_types.specs.declared.reply.Reply.TheVariants.{Attr as AttrReply}
use Rattle.file_tree.specs.declared.object.Body.{Body}
use Rattle.file_tree.specs.declared.object.Body.TheVariants as body
use Rattle.file_tree.specs.Tree.{Tree, slots_within, kind_of, size_of, attr_at}
use Rattle.file_tree.specs.Tries.{◌>>=◌, Tried}
use Rattle.harp_types.specs.Limits.{field_left}
use Rattle.file_tree.specs.Outcome.{given, given_mode, given_time, mtime_for_size, body_with, resized, with_fields, set_fields, set_attr, change}
use Rattle.file_tree.proofs.Kept.{place_changed}
use Rattle.harp_cells.specs.Effect.{Cells}
use Rattle.harp_cells.specs.declared.cell.Cell.TheVariants as cell
use Rattle.harp_cells.specs.declared.change.Change.{Change}
use Rattle.harp_cells.specs.declared.change.Change.TheVariants as changing
use Rattle.harp_cells.specs.declared.value.Inode.{Inode}
use Rattle.harp_cells.specs.declared.value.Value.TheVariants as value
use Rattle.inode_blocks.specs.Changes.{cuts, put_kept, kept_in}
use Rattle.cell_changes.specs.Short.{AreShort}
use Rattle.cell_changes.specs.Table.{resizes, tree_changes}
use Rattle.nfs_calls.specs.declared.updates.set_attr.Set.{Set}
use Rattle.nfs_calls.specs.declared.parts.totals.Totals.{Totals}
use Rattle.nfs_calls.specs.Plans.{planned, totals_of}
use Rattle.nfs_calls.specs.Attributes.{IsSet, bytes_given, resizes_by, set_inode, set_tree}
use Rattle.nfs_calls.specs.Space.{replaced_blocks, used_with}
use Rattle.nfs_calls.specs.TreeCells.{IsInode, attr_by, object_at}
use Rattle.nfs_calls.proofs.Inodes.{content_size}
use Rattle.nfs_calls.proofs.Entered.{same_inode}
use Rattle.nfs_calls.proofs.Makes.{attr_placed}
use Rattle.nfs_calls.proofs.Changed.{KeepsKind, inode_with, changed_inode, changed_put, changed_totals, unchanged_totals}

-- ---- few changes

-- ---- a size that is given

length-resized : (bytes : List ℕ) (size : ℕ) → length (resized bytes size) ≡ size
length-resized bytes size = simp (length-append, length-take, length-replicate) (omega arith)

-- a body with the bytes of a given size
record IsResized (b : Body) (size : ℕ) : Type 0 where
  kind : kind_of (body_with b (bytes_given b size)) ≡ kind_of b
  slots : slots_within (body_with b (bytes_given b size)) ≡ slots_within b
  long : size_of (body_with b (bytes_given b size)) ≡ given size (size_of b)

regular_resized : (b : Body) (size : ℕ) → kind_of b ≡ kind.Regular → (size == field_left) ≡ false
    → IsResized b size
regular_resized (body.Regular bytes) size e t =
    record { kind = rw t refl; slots = rw t refl; long = rw t (length-resized bytes size) }
regular_resized (body.Directory slots) size e t = absurd cc
regular_resized (body.Link text) size e t = absurd cc

body_resized : (b : Body) (size : ℕ) → ((size ≡ field_left → ⊥) → kind_of b ≡ kind.Regular)
    → IsResized b size
body_resized b size file = elim (cases_Bool (size == field_left)) [
  | inl t ↦ record { kind = rw t refl; slots = rw t refl; long = rw t refl }
  | inr t ↦ regular_resized b size (file (eqb-false size field_left t)) t
]

-- what the steps of given attributes told
pub record IsGiven (tree : Tree) (number : ℕ) (i : Inode) (a : SetAttr) (totals : Totals)
    (used : ℕ) : Type 0 where
  pub own : IsInode tree number i
  pub totals_are : totals ≡ totals_of tree
  pub file : (a.size ≡ field_left → ⊥) → i.kind ≡ kind.Regular
  pub room : used_with totals.used i.size a.size ≡ Ok used

file_is : (tree : Tree) (number : ℕ) (i : Inode) (a : SetAttr) (totals : Totals) (used : ℕ)
    → IsGiven tree number i a totals used
    → IsResized (object_at tree number).body a.size
file_is tree number i a totals used is =
    body_resized (object_at tree number).body a.size
    (λ ne. sym (ap (λ (j : Inode). j.kind) is.own.is) ∙ is.file ne)

set_keeps : (tree : Tree) (number : ℕ) (i : Inode) (a : SetAttr) (now : Time) (totals : Totals)
    (used : ℕ) → IsGiven tree number i a totals used
    → KeepsKind (object_at tree number)
    (with_fields a (bytes_given (object_at tree number).body a.size) now (object_at tree number))
set_keeps tree number i a now totals used is =
    let r = file_is tree number i a totals used is in
    record { kind = r.kind; slots = r.slots }

set_inode_is : (tree : Tree) (number : ℕ) (i : Inode) (a : SetAttr) (now : Time) (totals : Totals)
    (used : ℕ) → IsGiven tree number i a totals used
    → set_inode i a now ≡ inode_with i
    (with_fields a (bytes_given (object_at tree number).body a.size) now (object_at tree number))
unfolding set_inode
set_inode_is tree number i a now totals used is =
    let o = object_at tree number in
    let e = is.own.is in
    let r = file_is tree number i a totals used is in
    same_inode (set_inode i a now) (inode_with i
    (with_fields a (bytes_given o.body a.size) now o)) refl
    (ap (λ (j : Inode). given_mode a.mode j.mode) e) (ap (λ (j : Inode). given a.uid j.uid) e)
    (ap (λ (j : Inode). given a.gid j.gid) e) refl refl
    (ap (λ (j : Inode). given a.size j.size) e ∙ sym r.long) refl
    (ap (λ (j : Inode). given_time a.atime j.atime) e)
    (ap (λ (j : Inode). given_time a.mtime (mtime_for_size a.size j.mtime now)) e) refl

set_totals : (tree : Tree) (number : ℕ) (i : Inode) (a : SetAttr) (now : Time) (totals : Totals)
    (used : ℕ) → IsGiven tree number i a totals used
    → totals_of (set_tree tree number a now) ≡ record { next = totals.next; used = used }
set_totals tree number i a now totals used is =
    let o = object_at tree number in
    let f = with_fields a (bytes_given o.body a.size) now in
    let long = (file_is tree number i a totals used is).long in
    elim (cases_Bool (a.size == field_left)) [
      | inl t ↦
          let same : size_of (f o).body ≡ size_of o.body = long ∙ rw t refl in
          let left : used_with totals.used i.size a.size ≡ Ok totals.used = rw t refl in
          let room = is.room in
          let used_is : totals.used ≡ used = cc in
          unchanged_totals tree number f i totals is.own is.totals_are same
          ∙ ap (λ (n : ℕ). let x : Totals = record { next = totals.next; used = n } in
          x) used_is
      | inr t ↦
          let wanted : size_of (f o).body ≡ a.size = long ∙ rw t refl in
          let with : used_with totals.used i.size a.size
          ≡ replaced_blocks totals.used i.size a.size = rw t refl in
          changed_totals tree number f i totals used is.own is.totals_are
          (ap (replaced_blocks totals.used i.size) wanted ∙ sym with ∙ is.room)
    ]

pub not_directory : (k : Kind) → k ≡ kind.Regular → k ≡ kind.Directory → ⊥
not_directory k e f = absurd cc

set_resizes : (cells : Cells) (tree : Tree) (number : ℕ) (i : Inode) (a : SetAttr) (totals : Totals)
    (used : ℕ) → IsGiven tree number i a totals used
    → resizes cells tree number a.size ≡ resizes_by cells number i.size a.size
set_resizes cells tree number i a totals used is = elim (cases_Bool (a.size == field_left)) [
  | inl t ↦ rw t refl
  | inr t ↦
      let file = is.file (eqb-false a.size field_left t) in
      rw t (ap (λ (n : ℕ). cuts number n a.size (kept_in cells number a.size))
      (content_size tree number i is.own (not_directory i.kind file)))
]

-- what was computed is what the tree says
pub is_set : (cells : Cells) (tree : Tree) (number : ℕ) (i : Inode) (a : SetAttr) (now : Time)
    (totals : Totals) (used : ℕ) (s : Set) → IsGiven tree number i a totals used
    → s.inode ≡ set_inode i a now
    → s.changes.items ≡ resizes_by cells number i.size a.size
    ++ changing.Put (cell.Object number) (value.Object s.inode) ∷ []
    → s.totals ≡ record { next = totals.next; used = used }
    → IsSet cells tree (set_tree tree number a now) number a.size s
is_set cells tree number i a now totals used s is inode changes totals_are =
    let o = object_at tree number in
    let f = with_fields a (bytes_given o.body a.size) now in
    let keeps = set_keeps tree number i a now totals used is in
    let set = inode ∙ set_inode_is tree number i a now totals used is in
    record {
      attr =
          ap (attr_by number) (set ∙ sym (changed_inode tree number f i is.own keeps))
          ∙ sym (attr_placed (change tree number f) number (f o)
          (place_changed tree number f o is.own.at));
      changes =
          changes ∙ (let one = sym (set_resizes cells tree number i a totals used is) in
          let two =
          sym (changed_put tree number f i s.inode is.own keeps set) in λ k. one k ++ two k);
      totals = totals_are ∙ sym (set_totals tree number i a now totals used is);
    }

pub put_behind : (changes more wanted put : List Change) → changes ≡ wanted → more ≡ changes ++ put
    → more ≡ wanted ++ put
put_behind changes more wanted put e f = f ∙ ap (λ (l : List Change). l ++ put) e

pub set_attr_plan : (cells : Cells) (tree : Tree) (cred : Cred) (number : ℕ) (a : SetAttr)
    (now : Time) (s : Set) (attr : Attr)
    → set_fields tree cred number a now ≡ Ok (set_tree tree number a now)
    → IsSet cells tree (set_tree tree number a now) number a.size s → attr ≡ attr_by number s.inode
    → planned cells tree (call.SetAttr number a) (set_attr tree cred number a now)
    ≡ Ok (AttrReply attr, s.changes.items, s.totals)
unfolding set_attr tree_changes
set_attr_plan cells tree cred number a now s attr done is e =
    ap (λ (r : Tried Tree). planned cells tree (call.SetAttr number a)
    (r >>= λ (new : Tree). Ok (AttrReply (attr_at new number), new))) done
    ∙ (let one = sym (e ∙ is.attr) in let two = sym is.changes in
    let three = sym is.totals in λ k. Ok (AttrReply (one k), two k, three k))
