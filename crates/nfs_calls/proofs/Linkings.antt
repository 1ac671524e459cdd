-- What a further entry of a file or a link makes of a tree.
use Rattle.std.proofs.Common.{◌≡◌, ℕ, ◌+◌, ◌*◌, ltb, Bool, true, false, cond, List, [], ◌∷◌, length, get_or, set, Option, Some, None, Ok, refl, sym, ap, ◌∙◌, subst, arith, inl, inr}
use Rattle.std.proofs.lemmas.Bool.{cases_eq}
use Rattle.std.proofs.lemmas.List.{get_or-set_other}
use Rattle.harp_types.specs.declared.attr.Time.{Time}
use Rattle.harp_types.specs.declared.call.Call.TheVariants as call
use Rattle.harp_types.specs.declared.cred.Cred.{Cred}
use Rattle.harp_types.specs.declared.reply.Reply.TheVariants.{Done}
use Rattle.harp_types.specs.declared.reply.Status.TheVariants.{NoSpc}
use Rattle.file_tree.specs.declared.object.Object.{Object}
use Rattle.file_tree.specs.declared.object.Slot.{Slot}
use Rattle.file_tree.specs.Tree.{Tree, Slots, place, slots_of, with_entry, blocks_of, used_blocks, names_at, names_of, size_of, is_directory, is_directory_at, parent_of}
use Rattle.file_tree.specs.Tries.{◌>>=◌, live, refuse}
use Rattle.file_tree.specs.Permissions.{writing, allowed, searched}
use Rattle.file_tree.specs.Outcome.{add_entry, change, free_name, link, reslotted, set_ctime}
use Rattle.file_tree.specs.Sound.{IsSound}
use Rattle.file_tree.proofs.Bounds.{blocks_placed, names_of-le}
use Rattle.file_tree.proofs.Kept.{length-change, place_changed, used_change}
use Rattle.file_tree.proofs.Reslots.{Reslots, change_is, kinds_reslots, length_reslots, names_reslots, other_place, own_names_after, reslots_reslotted, used_reslots}
use Rattle.file_tree.proofs.SlotLaws.{names_entered}
use Rattle.file_tree.proofs.SoundChanges.{kinds_set, names_at_set, names_of_set, one_itself, one_other}
use Rattle.harp_cells.specs.declared.cell.Cell.TheVariants as cell
use Rattle.harp_cells.specs.declared.change.Change.{Change}
use Rattle.harp_cells.specs.declared.change.Change.TheVariants as changing
use Rattle.harp_cells.specs.declared.value.Inode.{Inode}
use Rattle.harp_cells.specs.declared.value.Value.TheVariants as value
use Rattle.harp_cells.specs.CellsOfTree.{inode_of, object_value, slot_value}
use Rattle.inode_dirs.proofs.SlotCounts.{entry_grows}
use Rattle.cell_changes.specs.Table.{change_to, free_slot, set_by, tree_changes}
use Rattle.cell_changes.specs.TreeCells.{TreeCells}
use Rattle.cell_changes.proofs.Links.{IsNamedAlike, directory_share, parent_kept}
use Rattle.nfs_calls.specs.declared.parts.new_entry.Room.{Room}
use Rattle.nfs_calls.specs.declared.parts.totals.Totals.{Totals}
use Rattle.nfs_calls.specs.Plans.{planned, totals_of}
use Rattle.nfs_calls.specs.NewEntries.{entered, linked, links_by}
use Rattle.nfs_calls.specs.Space.{replaced_blocks}
use Rattle.nfs_calls.specs.TreeCells.{IsDirectory, IsInode, IsRoom, object_at}
use Rattle.nfs_calls.proofs.Entered.{directory_body, entered_is, same_inode, slot_count}
use Rattle.nfs_calls.proofs.RoomLaws.{blocks_stored, replaced_is}
use Rattle.nfs_calls.proofs.Makes.{file_links, no_parent, slot_placed}

-- ---- room

both_refuse : (b : Bool) (n : ℕ) (x : Tree)
    → ((refuse NoSpc b >>= λ (u : Unit {0}). Ok n) >>= λ (m : ℕ). Ok x)
    ≡ (refuse NoSpc b >>= λ (u : Unit {0}). Ok x)
both_refuse true n x = refl
both_refuse false n x = refl

-- the steps of a further entry, by what is stored
pub add_steps : (tree : Tree) (dir : ℕ) (i : Inode) (s : Slot) (now : Time) (totals : Totals)
    → IsDirectory tree dir i → totals ≡ totals_of tree
    → add_entry tree dir (slots_of (place tree dir)) s now
    ≡ (replaced_blocks totals.used i.size (264 * length (with_entry (slots_of (place tree dir)) s))
    >>= λ (n : ℕ). Ok (change tree dir (reslotted now (with_entry (slots_of (place tree dir)) s))))
unfolding add_entry
add_steps tree dir i s now totals is are =
    let slots = slots_of (place tree dir) in
    rw (are, blocks_stored tree dir i is.own)
    (sym (both_refuse (ltb (65536 + blocks_of i.size)
    (used_blocks tree + blocks_of (264 * length (with_entry slots s)))) _
    (change tree dir (reslotted now (with_entry slots s)))))

-- ---- the tree with the entry

abbrev pub link_of : List ℕ → ℕ → Slot
link_of name handle = record { name = name; number = handle }

abbrev pub with_link : Tree → ℕ → ℕ → List ℕ → Slots
with_link tree handle dir name = with_entry (slots_of (place tree dir)) (link_of name handle)

-- the tree with the entry alone, and the tree with the object's time too
abbrev pub between : Tree → ℕ → ℕ → List ℕ → Time → Tree
between tree handle dir name now = change tree dir (reslotted now (with_link tree handle dir name))

abbrev pub linked_tree : Tree → ℕ → ℕ → List ℕ → Time → Tree
linked_tree tree handle dir name now =
    change (between tree handle dir name now) handle (set_ctime now)

-- a file or a link that gets a further entry in a directory
pub record IsLinking (tree : Tree) (handle dir : ℕ) (f i : Inode) (name : List ℕ)
    (room : Room) : Type 0 where
  pub file : IsInode tree handle f
  pub kind : is_directory (object_at tree handle).body ≡ false
  pub directory : IsDirectory tree dir i
  pub opens : IsRoom (slots_of (place tree dir)) room
  pub used : replaced_blocks (used_blocks tree) i.size
      (264 * length (with_link tree handle dir name)) ≡ Ok room.used

apart : (tree : Tree) (handle dir : ℕ) (f i : Inode) (name : List ℕ) (room : Room)
    → IsLinking tree handle dir f i name room → handle ≡ dir → ⊥
apart tree handle dir f i name room is e =
    let body : is_directory (object_at tree dir).body ≡ true =
    ap is_directory (directory_body tree dir i is.directory) in
    let file : is_directory (object_at tree dir).body ≡ false =
    subst (λ (n : ℕ). is_directory (object_at tree n).body ≡ false) e is.kind in
    absurd cc

link_reslots : (tree : Tree) (handle dir : ℕ) (f i : Inode) (name : List ℕ) (room : Room)
    (now : Time) → IsLinking tree handle dir f i name room
    → Reslots tree (between tree handle dir name now) dir (slots_of (place tree dir))
    (with_link tree handle dir name)
link_reslots tree handle dir f i name room now is =
    reslots_reslotted tree dir (object_at tree dir) (slots_of (place tree dir))
    (with_link tree handle dir name) now is.directory.own.at
    (directory_body tree dir i is.directory)

-- the object stands where it stood, until its time is set
between_file : (tree : Tree) (handle dir : ℕ) (f i : Inode) (name : List ℕ) (room : Room)
    (now : Time) → IsLinking tree handle dir f i name room
    → place (between tree handle dir name now) handle ≡ Some (object_at tree handle)
between_file tree handle dir f i name room now is =
    other_place _ _ dir _ _ (link_reslots tree handle dir f i name room now is) handle
    (apart tree handle dir f i name room is) ∙ is.file.at

linked_set : (tree : Tree) (handle dir : ℕ) (f i : Inode) (name : List ℕ) (room : Room) (now : Time)
    → IsLinking tree handle dir f i name room
    → linked_tree tree handle dir name now
    ≡ set (between tree handle dir name now) handle (Some (set_ctime now (object_at tree handle)))
linked_set tree handle dir f i name room now is =
    change_is (between tree handle dir name now) handle (set_ctime now) (object_at tree handle)
    (between_file tree handle dir f i name room now is)

linked_file : (tree : Tree) (handle dir : ℕ) (f i : Inode) (name : List ℕ) (room : Room)
    (now : Time) → IsLinking tree handle dir f i name room
    → place (linked_tree tree handle dir name now) handle
    ≡ Some (set_ctime now (object_at tree handle))
linked_file tree handle dir f i name room now is =
    place_changed (between tree handle dir name now) handle (set_ctime now) (object_at tree handle)
    (between_file tree handle dir f i name room now is)

linked_dir : (tree : Tree) (handle dir : ℕ) (f i : Inode) (name : List ℕ) (room : Room) (now : Time)
    → IsLinking tree handle dir f i name room
    → place (linked_tree tree handle dir name now) dir
    ≡ Some (reslotted now (with_link tree handle dir name) (object_at tree dir))
linked_dir tree handle dir f i name room now is =
    ap (λ (x : Tree). place x dir) (linked_set tree handle dir f i name room now is)
    ∙ get_or-set_other (between tree handle dir name now) handle dir
    (Some (set_ctime now (object_at tree handle))) None
    (λ e. apart tree handle dir f i name room is (sym e))
    ∙ place_changed tree dir (reslotted now (with_link tree handle dir name))
    (object_at tree dir) is.directory.own.at

linked_kinds : (tree : Tree) (handle dir : ℕ) (f i : Inode) (name : List ℕ) (room : Room)
    (now : Time) → IsLinking tree handle dir f i name room
    → (k : ℕ) → is_directory_at (place (linked_tree tree handle dir name now) k)
    ≡ is_directory_at (place tree k)
linked_kinds tree handle dir f i name room now is k =
    ap (λ (x : Tree). is_directory_at (place x k)) (linked_set tree handle dir f i name room now is)
    ∙ kinds_set (between tree handle dir name now) handle (object_at tree handle)
    (set_ctime now (object_at tree handle))
    (between_file tree handle dir f i name room now is) refl k
    ∙ kinds_reslots _ _ dir _ _ (link_reslots tree handle dir f i name room now is) k

-- how many slots of a directory name a number: those of the tree between
linked_names : (tree : Tree) (handle dir : ℕ) (f i : Inode) (name : List ℕ) (room : Room)
    (now : Time) → IsLinking tree handle dir f i name room
    → (d k : ℕ) → names_at k (place (linked_tree tree handle dir name now) d)
    ≡ names_at k (place (between tree handle dir name now) d)
linked_names tree handle dir f i name room now is d k =
    ap (λ (x : Tree). names_at k (place x d)) (linked_set tree handle dir f i name room now is)
    ∙ names_at_set (between tree handle dir name now) handle (object_at tree handle)
    (set_ctime now (object_at tree handle))
    (between_file tree handle dir f i name room now is) (λ n. refl) d k

-- the directory is named as before
dir_alike : (tree : Tree) (handle dir : ℕ) (f i : Inode) (name : List ℕ) (room : Room) (now : Time)
    → IsLinking tree handle dir f i name room
    → IsNamedAlike tree (linked_tree tree handle dir name now) dir
dir_alike tree handle dir f i name room now is d =
    let r = link_reslots tree handle dir f i name room now is in
    linked_names tree handle dir f i name room now is d dir ∙ (elim (cases_eq d dir) [
      | inl e ↦
          let more = names_entered (slots_of (place tree dir)) (link_of name handle) dir in
          let other = one_other handle dir (λ h. apart tree handle dir f i name room is (sym h)) in
          let here : names_at dir (place (between tree handle dir name now) dir)
          ≡ names_at dir (place tree dir) =
          omega (arith, own_names_after _ _ dir _ _ r dir, more, other) in
          subst (λ (n : ℕ). names_at dir (place (between tree handle dir name now) n)
          ≡ names_at dir (place tree n)) (sym e) here
      | inr ne ↦ ap (names_at dir) (other_place _ _ dir _ _ r d ne)
    ])

-- one more entry names the object
linked_count : (tree : Tree) (handle dir : ℕ) (f i : Inode) (name : List ℕ) (room : Room)
    (now : Time) → IsLinking tree handle dir f i name room
    → names_of (linked_tree tree handle dir name now) handle ≡ names_of tree handle + 1
linked_count tree handle dir f i name room now is =
    let r = link_reslots tree handle dir f i name room now is in
    let set : names_of (linked_tree tree handle dir name now) handle
    ≡ names_of (between tree handle dir name now) handle =
    ap (λ (x : Tree). names_of x handle) (linked_set tree handle dir f i name room now is)
    ∙ names_of_set (between tree handle dir name now) handle (object_at tree handle)
    (set_ctime now (object_at tree handle))
    (between_file tree handle dir f i name room now is) (λ n. refl) handle in
    omega (
      arith,
      set,
      names_reslots _ _ dir _ _ r handle,
      names_entered (slots_of (place tree dir)) (link_of name handle) handle,
      one_itself handle,
    )

-- ---- attributes

linked_dir_inode : (tree : Tree) (handle dir : ℕ) (f i : Inode) (name : List ℕ) (room : Room)
    (now : Time) → IsLinking tree handle dir f i name room
    → inode_of (linked_tree tree handle dir name now) dir
    (reslotted now (with_link tree handle dir name) (object_at tree dir))
    ≡ entered i room.slots 0 now
linked_dir_inode tree handle dir f i name room now is =
    let new = linked_tree tree handle dir name now in
    let many = is.opens.slots_are (link_of name handle) in
    let u = replaced_is (used_blocks tree) i.size _ room.used is.used in
    let share : directory_share new (Some (link_of name handle)) ≡ 0 =
    ap (λ (b : Bool). cond b 1 0) (linked_kinds tree handle dir f i name room now is handle
    ∙ ap is_directory_at is.file.at ∙ is.kind) in
    entered_is tree new dir i (link_of name handle) room.slots 0 now is.directory many
    (omega (
      arith,
      many,
      slot_count tree dir i is.directory,
      entry_grows (slots_of (place tree dir)) (link_of name handle),
    ))
    (rw many (omega (
      arith,
      u.fits,
      blocks_stored tree dir i is.directory.own,
      blocks_placed tree dir,
    )))
    share (omega arith)
    (λ k named. linked_kinds tree handle dir f i name room now is k)
    (parent_kept tree new dir (linked_kinds tree handle dir f i name room now is dir)
    (dir_alike tree handle dir f i name room now is))

linked_file_inode : (tree : Tree) (handle dir : ℕ) (f i : Inode) (name : List ℕ) (room : Room)
    (now : Time) → IsSound tree → IsLinking tree handle dir f i name room
    → inode_of (linked_tree tree handle dir name now) handle (set_ctime now (object_at tree handle))
    ≡ linked f now
unfolding linked
linked_file_inode tree handle dir f i name room now sound is =
    let new = linked_tree tree handle dir name now in
    let o = object_at tree handle in
    let stored = is.file.is in
    let links : f.links ≡ names_of tree handle = ap (λ (j : Inode). j.links) stored
    ∙ file_links tree handle o.body is.kind in
    let few = names_of-le tree handle in
    let room_left = sound.limits.room in
    let more : names_of new handle ≡ names_of tree handle + 1 =
    linked_count tree handle dir f i name room now is in
    let old_parent : f.parent ≡ 0 = ap (λ (j : Inode). j.parent) stored
    ∙ no_parent tree handle (ap is_directory_at is.file.at ∙ is.kind) in
    let new_parent : parent_of new handle ≡ 0 =
    no_parent new handle (linked_kinds tree handle dir f i name room now is handle
    ∙ ap is_directory_at is.file.at ∙ is.kind) in
    same_inode (inode_of new handle (set_ctime now o)) (linked f now)
    (sym (ap (λ (j : Inode). j.kind) stored))
    (sym (ap (λ (j : Inode). j.mode) stored))
    (sym (ap (λ (j : Inode). j.uid) stored))
    (sym (ap (λ (j : Inode). j.gid) stored))
    (file_links new handle o.body is.kind ∙ omega (arith, more, links, few, room_left))
    (new_parent ∙ sym old_parent)
    (sym (ap (λ (j : Inode). j.size) stored))
    (sym (ap (λ (j : Inode). j.slots) stored))
    (sym (ap (λ (j : Inode). j.atime) stored))
    (sym (ap (λ (j : Inode). j.mtime) stored))
    refl

-- ---- the plan

linked_totals : (tree : Tree) (handle dir : ℕ) (f i : Inode) (name : List ℕ) (room : Room)
    (now : Time) → IsLinking tree handle dir f i name room
    → totals_of (linked_tree tree handle dir name now)
    ≡ record { next = length tree; used = room.used }
linked_totals tree handle dir f i name room now is =
    let r = link_reslots tree handle dir f i name room now is in
    let o = object_at tree handle in
    let u = replaced_is (used_blocks tree) i.size _ room.used is.used in
    let size : i.size ≡ 264 * length (slots_of (place tree dir)) =
    ap (λ (j : Inode). j.size) is.directory.own.is
    ∙ ap size_of (directory_body tree dir i is.directory) in
    let old : blocks_of i.size ≡ blocks_of (264 * length (slots_of (place tree dir))) =
    ap blocks_of size in
    let next : length (linked_tree tree handle dir name now) ≡ length tree =
    length-change (between tree handle dir name now) handle (set_ctime now)
    ∙ length_reslots _ _ dir _ _ r in
    let time =
    used_change (between tree handle dir name now) handle (set_ctime now) o
    (between_file tree handle dir f i name room now is) in
    let used : used_blocks (linked_tree tree handle dir name now) ≡ room.used =
    omega (arith, used_reslots _ _ dir _ _ r, time, u.is, old) in
    λ k. record { next = next k; used = used k }

linked_changes : (tree : Tree) (handle dir : ℕ) (f i : Inode) (name : List ℕ) (room : Room)
    (now : Time) → IsSound tree → IsLinking tree handle dir f i name room
    → set_by (linked_tree tree handle dir name now)
    (cell.Slot dir (free_slot tree dir) ∷ cell.Object dir ∷ cell.Object handle ∷ [])
    ≡ links_by dir room.slot name (entered i room.slots 0 now) handle (linked f now)
linked_changes tree handle dir f i name room now sound is =
    let new = linked_tree tree handle dir name now in
    let at = linked_dir tree handle dir f i name room now is in
    let slot : slot_value (get_or (slots_of (place new dir)) (free_slot tree dir) None)
    ≡ slot_value (Some (link_of name handle)) =
    ap (λ (x : Option Object). slot_value (get_or (slots_of x) (free_slot tree dir) None)) at
    ∙ ap slot_value (slot_placed (slots_of (place tree dir)) (link_of name handle)) in
    let own : object_value new dir (place new dir)
    ≡ Some (value.Object (entered i room.slots 0 now)) =
    ap (object_value new dir) at ∙ ap (λ (j : Inode). Some (value.Object j))
    (linked_dir_inode tree handle dir f i name room now is) in
    let file : object_value new handle (place new handle) ≡ Some (value.Object (linked f now)) =
    ap (object_value new handle) (linked_file tree handle dir f i name room now is)
    ∙ ap (λ (j : Inode). Some (value.Object j))
    (linked_file_inode tree handle dir f i name room now sound is) in
    let first : change_to (cell.Slot dir (free_slot tree dir))
    (slot_value (get_or (slots_of (place new dir)) (free_slot tree dir) None))
    ≡ changing.Put (cell.Slot dir room.slot) (value.Slot handle name) =
    ap (change_to (cell.Slot dir (free_slot tree dir))) slot
    ∙ ap (λ (n : ℕ). changing.Put (cell.Slot dir n) (value.Slot handle name))
    (sym is.opens.slot) in
    let second = ap (change_to (cell.Object dir)) own in
    let third = ap (change_to (cell.Object handle)) file in
    λ k. first k ∷ second k ∷ third k ∷ []

-- what was computed for a further entry
pub record IsComputed (dir handle : ℕ) (f i : Inode) (name : List ℕ) (room : Room) (now : Time)
    (changes : List Change) : Type 0 where
  pub stored : List ℕ
  pub with : Inode
  pub file : Inode
  pub directory : with ≡ entered i room.slots 0 now
  pub linked_is : file ≡ linked f now
  pub named : stored ≡ name
  pub are : changes ≡ links_by dir room.slot stored with handle file

pub link_plan : (t : TreeCells) (totals : Totals) (cred : Cred) (handle dir : ℕ) (f i : Inode)
    (name : List ℕ) (room : Room) (now : Time) (changes : List Change)
    → totals ≡ totals_of t.tree → IsLinking t.tree handle dir f i name room
    → live t.tree handle ≡ Ok (object_at t.tree handle)
    → searched t.tree cred dir ≡ Ok (slots_of (place t.tree dir))
    → free_name (slots_of (place t.tree dir)) name ≡ Ok tt → allowed t.tree cred dir writing ≡ Ok tt
    → add_entry t.tree dir (slots_of (place t.tree dir)) (link_of name handle) now
    ≡ Ok (between t.tree handle dir name now)
    → IsComputed dir handle f i name room now changes
    → planned t.cells t.tree (call.Link handle dir name) (link t.tree cred handle dir name now)
    ≡ Ok (Done, changes, record { next = totals.next; used = room.used })
unfolding link tree_changes
link_plan t totals cred handle dir f i name room now changes are is lives searches free writes added
    computed =
    let wanted : changes ≡ links_by dir room.slot name (entered i room.slots 0 now) handle
    (linked f now) =
    computed.are ∙ (λ k. links_by dir room.slot (computed.named k) (computed.directory k) handle
    (computed.linked_is k)) in
    rw (
      lives,
      searches,
      is.kind,
      free,
      writes,
      added,
      linked_changes t.tree handle dir f i name room now t.sound is,
      linked_totals t.tree handle dir f i name room now is,
      wanted,
      are,
    ) refl
