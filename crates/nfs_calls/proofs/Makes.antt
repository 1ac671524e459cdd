-- What a new object with its entry makes of a tree.
use Rattle.std.proofs.Common.{◌≡◌, ℕ, ◌+◌, ◌-◌, ◌*◌, ◌%◌, ◌<◌, ◌≤◌, ◌==◌, Bool, true, false, cond, List, [], ◌∷◌, ◌++◌, length, get_or, append_assoc, Option, Some, None, Ok, refl, sym, ap, ◌∙◌, subst, arith, inl, inr}
use Rattle.std.proofs.lemmas.Bool.{cases_eq, cases_lt, eq-eqb, cond_both}
use Rattle.std.proofs.lemmas.List.{length_push, get_or_past, get_or_push}
use Rattle.harp_types.specs.declared.attr.Attr.{Attr}
use Rattle.harp_types.specs.declared.attr.Kind.TheVariants as kind
use Rattle.harp_types.specs.declared.attr.SetAttr.{SetAttr}
use Rattle.harp_types.specs.declared.attr.Time.{Time}
use Rattle.harp_types.specs.declared.call.Call.TheVariants as call
use Rattle.harp_types.specs.declared.cred.Cred.{Cred}
use Rattle.harp_types.specs.declared.reply.Reply.TheVariants.{Node}
use Rattle.file_tree.specs.declared.object.Body.{Body}
use Rattle.file_tree.specs.declared.object.Body.TheVariants as body
use Rattle.file_tree.specs.declared.object.Object.{Object}
use Rattle.file_tree.specs.declared.object.Slot.{Slot}
use Rattle.file_tree.specs.Tree.{Tree, Slots, place, slots_of, slots_within, with_entry, free_from, blocks_of, used_blocks, size_of, names_in, names_at, names_of, is_directory, is_directory_at, links_of, parent_of, kind_of, attr_at}
use Rattle.file_tree.specs.Permissions.{searched, may_make}
use Rattle.harp_types.specs.Limits.{field_left}
use Rattle.file_tree.specs.Outcome.{room_for, reslotted, with_object, made, given_mode, free_name, make_dir}
use Rattle.file_tree.specs.Sound.{IsSound, IsSoundObject}
use Rattle.file_tree.proofs.Kept.{place_within, place_changed, place_push, used_push}
use Rattle.file_tree.proofs.Bounds.{blocks_placed}
use Rattle.file_tree.proofs.Holders.{parent_is}
use Rattle.file_tree.proofs.SlotLaws.{names_entered, no_slots_sound}
use Rattle.file_tree.proofs.Reslots.{Reslots, reslots_reslotted, length_reslots, other_place, own_names_after, names_reslots, used_reslots, kinds_reslots, root_within}
use Rattle.file_tree.proofs.SoundChanges.{one_itself, one_other}
use Rattle.file_tree.proofs.SoundMakes.{no_names, pushed_names, sound_made}
use Rattle.file_tree.proofs.SoundMoves.{names_at-le}
use Rattle.file_tree.proofs.TryLaws.{IsFree, free_name_is, room_for_is}
use Rattle.harp_cells.specs.declared.cell.Cell.TheVariants as cell
use Rattle.harp_cells.specs.declared.change.Change.{Change}
use Rattle.harp_cells.specs.declared.change.Change.TheVariants as change
use Rattle.harp_cells.specs.declared.value.Value.TheVariants as value
use Rattle.harp_cells.specs.declared.value.Inode.{Inode}
use Rattle.harp_cells.specs.CellsOfTree.{inode_of, object_value, slot_value}
use Rattle.inode_blocks.specs.Changes.{put, text_put}
use Rattle.inode_dirs.proofs.SlotChanges.{entry_differs}
use Rattle.inode_dirs.proofs.SlotCounts.{entry_grows}
use Rattle.cell_changes.specs.Table.{tree_changes, makes, change_to, free_slot}
use Rattle.cell_changes.specs.TreeCells.{TreeCells}
use Rattle.cell_changes.proofs.Links.{IsNamedAlike, IsSameKind, directory_share, parent_kept}
use Rattle.nfs_calls.specs.declared.parts.new_entry.Room.{Room}
use Rattle.nfs_calls.specs.declared.parts.totals.Totals.{Totals}
use Rattle.nfs_calls.specs.Plans.{planned, totals_of}
use Rattle.nfs_calls.specs.NewEntries.{entered, made_inode, makes_by}
use Rattle.nfs_calls.specs.Space.{replaced_blocks}
use Rattle.nfs_calls.specs.TreeCells.{IsDirectory, IsRoom, attr_by, object_at}
use Rattle.nfs_calls.proofs.Entered.{same_inode, entered_is, slot_count, directory_body}
use Rattle.nfs_calls.proofs.RoomLaws.{replaced_is}

pub text_none : (object : ℕ) (text : List ℕ) → length text ≡ 0 → text_put object text ≡ []
text_none object [] e = refl
text_none object (b ∷ text) e = absurd (omega (arith, e))

pub text_some : (object : ℕ) (text : List ℕ) → 1 ≤ length text
    → text_put object text ≡ put object 0 text ∷ []
text_some object [] h = absurd (omega (arith, h))
text_some object (b ∷ text) h = refl

pub ruleset text_puts = (text_none, text_some)

-- ---- the tree with a new object and its entry

abbrev pub entry_of : Tree → List ℕ → Slot
entry_of tree name = record { name = name; number = length tree }

abbrev pub full_of : Tree → ℕ → List ℕ → Slots
full_of tree dir name = with_entry (slots_of (place tree dir)) (entry_of tree name)

abbrev pub made_tree : Tree → ℕ → List ℕ → Object → Time → Tree
made_tree tree dir name o now = with_object tree dir (full_of tree dir name) o now

-- a new object that a directory has room for under a free name
pub record IsNew (tree : Tree) (dir : ℕ) (i : Inode) (name : List ℕ) (o : Object)
    (room : Room) : Type 0 where
  pub sound : IsSound tree
  pub directory : IsDirectory tree dir i
  pub free : IsFree (slots_of (place tree dir)) name
  pub opens : IsRoom (slots_of (place tree dir)) room
  pub fits : room_for tree dir (slots_of (place tree dir)) name (size_of o.body)
      ≡ Ok (full_of tree dir name)
  pub used : replaced_blocks (used_blocks tree + blocks_of (size_of o.body)) i.size
      (264 * length (full_of tree dir name)) ≡ Ok room.used
  pub object : IsSoundObject (Some o)
  pub bare : (k : ℕ) → names_in k (slots_within o.body) ≡ 0

dir_within : (tree : Tree) (dir : ℕ) (i : Inode) → IsDirectory tree dir i → dir < length tree
dir_within tree dir i is = place_within tree dir (object_at tree dir) is.own.at

pushed_at : (tree : Tree) (dir : ℕ) (i : Inode) (o : Object) → IsDirectory tree dir i
    → place (tree ++ Some o ∷ []) dir ≡ Some (object_at tree dir)
pushed_at tree dir i o is = place_push tree (Some o) dir (dir_within tree dir i is) ∙ is.own.at

new_reslots : (tree : Tree) (dir : ℕ) (i : Inode) (name : List ℕ) (o : Object) (room : Room)
    (now : Time) → IsNew tree dir i name o room
    → Reslots (tree ++ Some o ∷ []) (made_tree tree dir name o now) dir (slots_of (place tree dir))
    (full_of tree dir name)
new_reslots tree dir i name o room now is =
    reslots_reslotted (tree ++ Some o ∷ []) dir (object_at tree dir) (slots_of (place tree dir))
    (full_of tree dir name) now
    (pushed_at tree dir i o is.directory) (directory_body tree dir i is.directory)

pub made_sound : (tree : Tree) (dir : ℕ) (i : Inode) (name : List ℕ) (o : Object) (room : Room)
    (now : Time) → IsNew tree dir i name o room
    → IsSound (made_tree tree dir name o now)
made_sound tree dir i name o room now is =
    let r = room_for_is tree dir (slots_of (place tree dir)) name (size_of o.body)
    (full_of tree dir name) is.fits in
    sound_made tree dir (object_at tree dir)
    (slots_of (place tree dir)) name o now is.sound is.directory.own.at
    (directory_body tree dir i is.directory)
    is.free.right is.free.new is.object is.bare r.few r.enough

-- the directory with the entry
pub made_dir : (tree : Tree) (dir : ℕ) (i : Inode) (name : List ℕ) (o : Object) (now : Time)
    → IsDirectory tree dir i
    → place (made_tree tree dir name o now) dir
    ≡ Some (reslotted now (full_of tree dir name) (object_at tree dir))
made_dir tree dir i name o now is =
    place_changed (tree ++ Some o ∷ []) dir (reslotted now (full_of tree dir name))
    (object_at tree dir) (pushed_at tree dir i o is)

-- the new object
pub made_new : (tree : Tree) (dir : ℕ) (i : Inode) (name : List ℕ) (o : Object) (room : Room)
    (now : Time) → IsNew tree dir i name o room
    → place (made_tree tree dir name o now) (length tree) ≡ Some o
made_new tree dir i name o room now is =
    let within = dir_within tree dir i is.directory in
    other_place _ _ dir _ _ (new_reslots tree dir i name o room now is) (length tree)
    (λ e. omega (arith, e, within))
    ∙ get_or_push tree (Some o) None (length tree) refl

-- other numbers have what they had
pushed_other : (tree : Tree) (o : Object) (k : ℕ) → (k ≡ length tree → ⊥)
    → place (tree ++ Some o ∷ []) k ≡ place tree k
pushed_other tree o k ne = elim (cases_lt k (length tree)) [
  | inl lt ↦ place_push tree (Some o) k lt
  | inr le ↦
      get_or_past (tree ++ Some o ∷ []) k None (omega (arith, length_push tree (Some o), le, ne))
      ∙ sym (get_or_past tree k None le)
]

named_before : (tree : Tree) (dir k : ℕ) → IsSound tree → 1 ≤ names_in k (slots_of (place tree dir))
    → k ≡ length tree → ⊥
named_before tree dir k sound named e =
    omega (arith, named, names_at-le tree dir k, no_names tree k sound (omega (arith, e)))

made_kinds : (tree : Tree) (dir : ℕ) (i : Inode) (name : List ℕ) (o : Object) (room : Room)
    (now : Time) → IsNew tree dir i name o room
    → (k : ℕ) → (k ≡ length tree → ⊥) → IsSameKind tree (made_tree tree dir name o now) k
made_kinds tree dir i name o room now is k ne =
    kinds_reslots _ _ dir _ _ (new_reslots tree dir i name o room now is) k
    ∙ ap is_directory_at (pushed_other tree o k ne)

-- the directory is named as before
dir_alike : (tree : Tree) (dir : ℕ) (i : Inode) (name : List ℕ) (o : Object) (room : Room)
    (now : Time) → IsNew tree dir i name o room
    → IsNamedAlike tree (made_tree tree dir name o now) dir
dir_alike tree dir i name o room now is d =
    let r = new_reslots tree dir i name o room now is in
    let within = dir_within tree dir i is.directory in
    elim (cases_eq d dir) [
      | inl e ↦
          let entered = names_entered (slots_of (place tree dir)) (entry_of tree name) dir in
          let other = one_other (length tree) dir (λ h. omega (arith, h, within)) in
          let here : names_at dir (place (made_tree tree dir name o now) dir)
          ≡ names_at dir (place tree dir) =
          omega (arith, own_names_after _ _ dir _ _ r dir, entered, other) in
          subst (λ (n : ℕ). names_at dir (place (made_tree tree dir name o now) n)
          ≡ names_at dir (place tree n)) (sym e) here
      | inr ne ↦ ap (names_at dir) (other_place _ _ dir _ _ r d ne)
          ∙ (elim (cases_eq d (length tree)) [
            | inl e ↦
                rw e (ap (names_at dir) (get_or_push tree (Some o) None (length tree) refl)
                ∙ is.bare dir
                ∙ sym (ap (names_at dir) (get_or_past tree (length tree) None (omega arith))))
            | inr past ↦ ap (names_at dir) (pushed_other tree o d past)
          ])
    ]

-- how many links more the directory has
new_share : (tree : Tree) (dir : ℕ) (i : Inode) (name : List ℕ) (o : Object) (room : Room)
    (now : Time) → IsNew tree dir i name o room
    → directory_share (made_tree tree dir name o now) (Some (entry_of tree name))
    ≡ cond (is_directory o.body) 1 0
new_share tree dir i name o room now is =
    ap (λ (x : Option Object). cond (is_directory_at x) 1 0)
    (made_new tree dir i name o room now is)

cond-le : (b : Bool) → cond b 1 0 ≤ 1
cond-le true = omega arith
cond-le false = omega arith

pub made_dir_inode : (tree : Tree) (dir : ℕ) (i : Inode) (name : List ℕ) (o : Object) (room : Room)
    (now : Time) → IsNew tree dir i name o room
    → inode_of (made_tree tree dir name o now) dir
    (reslotted now (full_of tree dir name) (object_at tree dir))
    ≡ entered i room.slots (cond (is_directory o.body) 1 0) now
made_dir_inode tree dir i name o room now is =
    let new = made_tree tree dir name o now in
    let within = dir_within tree dir i is.directory in
    let many = is.opens.slots_are (entry_of tree name) in
    let r = room_for_is tree dir (slots_of (place tree dir)) name (size_of o.body)
    (full_of tree dir name) is.fits in
    entered_is tree new dir i (entry_of tree name) room.slots
    (cond (is_directory o.body) 1 0) now is.directory many
    (omega (
      arith,
      many,
      slot_count tree dir i is.directory,
      entry_grows (slots_of (place tree dir)) (entry_of tree name),
    ))
    (rw many (omega (arith, r.enough, blocks_placed tree dir)))
    (new_share tree dir i name o room now is) (cond-le (is_directory o.body))
    (λ k named. made_kinds tree dir i name o room now is k (named_before tree dir k is.sound named))
    (parent_kept tree new dir (made_kinds tree dir i name o room now is dir
    (λ e. omega (arith, e, within))) (dir_alike tree dir i name o room now is))

-- the totals
pub made_totals : (tree : Tree) (dir : ℕ) (i : Inode) (name : List ℕ) (o : Object) (room : Room)
    (now : Time) → IsNew tree dir i name o room
    → totals_of (made_tree tree dir name o now)
    ≡ record { next = length tree + 1; used = room.used }
made_totals tree dir i name o room now is =
    let r = new_reslots tree dir i name o room now is in
    let u = replaced_is _ i.size _ room.used is.used in
    let size : i.size ≡ 264 * length (slots_of (place tree dir)) =
    ap (λ (j : Inode). j.size) is.directory.own.is
    ∙ ap size_of (directory_body tree dir i is.directory) in
    let old : blocks_of i.size ≡ blocks_of (264 * length (slots_of (place tree dir))) =
    ap blocks_of size in
    let next : length (made_tree tree dir name o now) ≡ length tree + 1 =
    length_reslots _ _ dir _ _ r ∙ length_push tree (Some o) in
    let used : used_blocks (made_tree tree dir name o now) ≡ room.used =
    omega (arith, used_reslots _ _ dir _ _ r, used_push tree o, u.is, old) in
    λ k. record { next = next k; used = used k }

pub slot_placed : (slots : Slots) (s : Slot)
    → get_or (with_entry slots s) (free_from 0 slots) None ≡ Some s
slot_placed slots s =
    let t : (free_from 0 slots == free_from 0 slots) ≡ true =
    eq-eqb (free_from 0 slots) (free_from 0 slots) refl in
    let e = entry_differs slots s (free_from 0 slots) in
    rw t at e

two_last : (xs : List Change) (a b : Change) → xs ++ a ∷ b ∷ [] ≡ (xs ++ a ∷ []) ++ b ∷ []
two_last xs a b = sym (append_assoc xs (a ∷ []) (b ∷ []))

-- the changes
pub made_changes : (tree : Tree) (dir : ℕ) (i : Inode) (name : List ℕ) (o : Object) (room : Room)
    (now : Time) (text : List ℕ) → IsNew tree dir i name o room
    → makes tree (made_tree tree dir name o now) dir text
    ≡ makes_by dir room.slot name (entered i room.slots (cond (is_directory o.body) 1 0) now)
    (length tree) (inode_of (made_tree tree dir name o now) (length tree) o) text
made_changes tree dir i name o room now text is =
    let new = made_tree tree dir name o now in
    let at = made_dir tree dir i name o now is.directory in
    let slot : slot_value (get_or (slots_of (place new dir)) (free_slot tree dir) None)
    ≡ slot_value (Some (entry_of tree name)) =
    ap (λ (x : Option Object). slot_value (get_or (slots_of x) (free_slot tree dir) None)) at
    ∙ ap slot_value (slot_placed (slots_of (place tree dir)) (entry_of tree name)) in
    let own : object_value new dir (place new dir)
    ≡ Some (value.Object (entered i room.slots (cond (is_directory o.body) 1 0) now)) =
    ap (object_value new dir) at ∙ ap (λ (j : Inode). Some (value.Object j))
    (made_dir_inode tree dir i name o room now is) in
    let made : object_value new (length tree) (place new (length tree))
    ≡ Some (value.Object (inode_of new (length tree) o)) =
    ap (object_value new (length tree)) (made_new tree dir i name o room now is) in
    let first : change_to (cell.Slot dir (free_slot tree dir))
    (slot_value (get_or (slots_of (place new dir)) (free_slot tree dir) None))
    ≡ change.Put (cell.Slot dir room.slot) (value.Slot (length tree) name) =
    ap (change_to (cell.Slot dir (free_slot tree dir))) slot
    ∙ ap (λ (n : ℕ). change.Put (cell.Slot dir n) (value.Slot (length tree) name))
    (sym is.opens.slot) in
    let second = ap (change_to (cell.Object dir)) own in
    let third = ap (change_to (cell.Object (length tree))) made in
    (λ k. (first k ∷ []) ++ text_put (length tree) text ++ second k ∷ third k ∷ [])
    ∙ ap (λ (l : List Change). change.Put (cell.Slot dir room.slot) (value.Slot (length tree) name)
    ∷ l)
    (two_last (text_put (length tree) text)
    (change.Put (cell.Object dir) (value.Object
    (entered i room.slots (cond (is_directory o.body) 1 0) now)))
    (change.Put (cell.Object (length tree)) (value.Object (inode_of new (length tree) o))))

-- ---- the attributes of the new object

new_held : (tree : Tree) (dir : ℕ) (i : Inode) (name : List ℕ) (o : Object) (room : Room)
    (now : Time) → IsNew tree dir i name o room
    → 1 ≤ names_at (length tree) (place (made_tree tree dir name o now) dir)
new_held tree dir i name o room now is =
    omega (
      arith,
      own_names_after _ _ dir _ _ (new_reslots tree dir i name o room now is) (length tree),
      names_entered (slots_of (place tree dir)) (entry_of tree name) (length tree),
      one_itself (length tree),
    )

new_names : (tree : Tree) (dir : ℕ) (i : Inode) (name : List ℕ) (o : Object) (room : Room)
    (now : Time) → IsNew tree dir i name o room
    → names_of (made_tree tree dir name o now) (length tree) ≡ 1
new_names tree dir i name o room now is =
    omega (
      arith,
      names_reslots _ _ dir _ _ (new_reslots tree dir i name o room now is) (length tree),
      names_entered (slots_of (place tree dir)) (entry_of tree name) (length tree),
      one_itself (length tree),
      pushed_names tree o (length tree) (is.bare (length tree)),
      no_names tree (length tree) is.sound (omega arith),
    )

pub file_links : (tree : Tree) (number : ℕ) (b : Body) → is_directory b ≡ false
    → links_of tree number b ≡ names_of tree number
unfolding links_of
file_links tree number (body.Regular bytes) e = refl
file_links tree number (body.Link text) e = refl
file_links tree number (body.Directory slots) e = absurd cc

pub no_parent : (tree : Tree) (number : ℕ) → is_directory_at (place tree number) ≡ false
    → parent_of tree number ≡ 0
unfolding parent_of
no_parent tree number e = rw e refl

-- a new directory
pub made_directory : (tree : Tree) (dir : ℕ) (i : Inode) (name : List ℕ) (cred : Cred) (a : SetAttr)
    (room : Room) (now : Time) → IsNew tree dir i name (made cred a (body.Directory []) now) room
    → inode_of (made_tree tree dir name (made cred a (body.Directory []) now) now) (length tree)
    (made cred a (body.Directory []) now) ≡ made_inode cred a kind.Directory 2 dir 0 now
unfolding made_inode links_of
made_directory tree dir i name cred a room now is =
    let o = made cred a (body.Directory []) now in
    let new = made_tree tree dir name o now in
    let at = made_new tree dir i name o room now is in
    let two = root_within tree is.sound.root in
    let parent =
    parent_is new dir (length tree) (made_sound tree dir i name o room now is).entries
    (ap is_directory_at at)
    (λ e. omega (arith, e, two)) (new_held tree dir i name o room now is) in
    same_inode (inode_of new (length tree) o)
    (made_inode cred a kind.Directory 2 dir 0 now) refl refl refl refl refl parent refl refl refl
    refl refl

-- a new file or link
pub made_file : (tree : Tree) (dir : ℕ) (i : Inode) (name : List ℕ) (cred : Cred) (a : SetAttr)
    (b : Body) (room : Room) (now : Time) → IsNew tree dir i name (made cred a b now) room
    → is_directory b ≡ false → length (slots_within b) ≡ 0
    → inode_of (made_tree tree dir name (made cred a b now) now) (length tree) (made cred a b now)
    ≡ made_inode cred a (kind_of b) 1 0 (size_of b) now
unfolding made_inode
made_file tree dir i name cred a b room now is file none =
    let o = made cred a b now in
    let new = made_tree tree dir name o now in
    let at = made_new tree dir i name o room now is in
    same_inode (inode_of new (length tree) o)
    (made_inode cred a (kind_of b) 1 0 (size_of b) now) refl refl refl refl
    (file_links new (length tree) b file ∙ new_names tree dir i name o room now is)
    (no_parent new (length tree) (ap is_directory_at at ∙ file)) refl none refl refl refl

-- ---- the plans

pub attr_placed : (tree : Tree) (number : ℕ) (o : Object) → place tree number ≡ Some o
    → attr_at tree number ≡ attr_by number (inode_of tree number o)
unfolding attr_at
attr_placed tree number o at = rw at refl

pub mode_fits : (new : ℕ) → given_mode new 0 < 4096
mode_fits new =
    cond_both (new == field_left) 0 (new % 4096) (λ (x : ℕ). x < 4096) (λ e. omega arith)
    (λ e. omega arith)

-- what the steps of a new entry told
pub record IsOpen (tree : Tree) (dir : ℕ) (i : Inode) (name : List ℕ) (size : ℕ)
    (room : Room) : Type 0 where
  pub directory : IsDirectory tree dir i
  pub opens : IsRoom (slots_of (place tree dir)) room
  pub fits : room_for tree dir (slots_of (place tree dir)) name size ≡ Ok (full_of tree dir name)
  pub used : replaced_blocks (used_blocks tree + blocks_of size) i.size
      (264 * length (full_of tree dir name)) ≡ Ok room.used

pub is_open : (tree : Tree) (totals : Totals) (dir : ℕ) (i : Inode) (name : List ℕ) (size : ℕ)
    (room : Room) → totals ≡ totals_of tree
    → IsDirectory tree dir i → IsRoom (slots_of (place tree dir)) room
    → room_for tree dir (slots_of (place tree dir)) name size
    ≡ Ok (with_entry (slots_of (place tree dir)) (record { name = name; number = totals.next }))
    → ((s : Slot) → replaced_blocks (totals.used + blocks_of size) i.size
    (264 * length (with_entry (slots_of (place tree dir)) s)) ≡ Ok room.used)
    → IsOpen tree dir i name size room
is_open tree totals dir i name size room are directory opens fits used = record {
  directory = directory;
  opens = opens;
  fits = subst (λ (x : Totals). room_for tree dir (slots_of (place tree dir)) name size
      ≡ Ok (with_entry (slots_of (place tree dir)) (record { name = name; number = x.next }))) are
      fits;
  used = subst (λ (x : Totals). replaced_blocks (x.used + blocks_of size) i.size
      (264 * length (full_of tree dir name)) ≡ Ok room.used) are (used (entry_of tree name));
}

-- what was computed for a new object with its entry
pub record IsComputed (dir : ℕ) (i : Inode) (name : List ℕ) (text : List ℕ) (room : Room) (more : ℕ)
    (wanted : Inode) (now : Time) (totals : Totals)
    (made : Inode) (changes : List Change) : Type 0 where
  pub stored : List ℕ
  pub with : Inode
  pub inode : made ≡ wanted
  pub directory : with ≡ entered i room.slots more now
  pub named : stored ≡ name
  pub are : changes ≡ makes_by dir room.slot stored with totals.next made text

-- the changes of what was computed
pub computed_changes : (tree : Tree) (dir : ℕ) (i : Inode) (name text : List ℕ) (room : Room)
    (more : ℕ) (wanted : Inode) (now : Time) (totals : Totals) (made : Inode)
    (changes : List Change)
    → totals ≡ totals_of tree → IsComputed dir i name text room more wanted now totals made changes
    → changes ≡ makes_by dir room.slot name (entered i room.slots more now)
    (length tree) wanted text
computed_changes tree dir i name text room more wanted now totals made changes are c =
    c.are ∙ (λ k. makes_by dir room.slot (c.named k) (c.directory k) (are k).next (c.inode k) text)

pub make_dir_plan : (t : TreeCells) (totals : Totals) (cred : Cred) (dir : ℕ) (i : Inode)
    (name : List ℕ) (a : SetAttr) (room : Room) (now : Time) (made_as : Inode) (attr : Attr)
    (changes : List Change)
    → totals ≡ totals_of t.tree → IsOpen t.tree dir i name 0 room
    → searched t.tree cred dir ≡ Ok (slots_of (place t.tree dir))
    → may_make t.tree cred dir a ≡ Ok tt
    → free_name (slots_of (place t.tree dir)) name ≡ Ok tt
    → IsComputed dir i name [] room 1
    (made_inode cred a kind.Directory 2 dir 0 now) now totals made_as changes
    → attr ≡ attr_by totals.next made_as
    → planned t.cells t.tree (call.MkDir dir name a) (make_dir t.tree cred dir name a now)
    ≡ Ok (Node totals.next attr, changes, record { next = totals.next + 1; used = room.used })
unfolding make_dir tree_changes
make_dir_plan t totals cred dir i name a room now made_as attr changes are is searches makes free
    computed attributes =
    let o = made cred a (body.Directory []) now in
    let n : IsNew t.tree dir i name o room = record {
      sound = t.sound;
      directory = is.directory;
      free = free_name_is (slots_of (place t.tree dir)) name free;
      opens = is.opens;
      fits = is.fits;
      used = is.used;
      object = (mode_fits a.mode, no_slots_sound);
      bare = λ k. refl;
    } in
    let new = made_tree t.tree dir name o now in
    let inode = made_directory t.tree dir i name cred a room now n in
    let attr_is = attr_placed new (length t.tree) o (made_new t.tree dir i name o room now n)
    ∙ ap (attr_by (length t.tree)) inode in
    let changes_are = made_changes t.tree dir i name o room now [] n in
    let wanted =
    computed_changes t.tree dir i name [] room 1
    (made_inode cred a kind.Directory 2 dir 0 now) now totals made_as changes are computed in
    rw (
      searches,
      free,
      makes,
      is.fits,
      attr_is,
      changes_are,
      inode,
      made_totals t.tree dir i name o room now n,
      attributes,
      computed.inode,
      wanted,
      are,
    ) refl
