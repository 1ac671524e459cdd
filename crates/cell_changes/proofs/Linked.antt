-- The changes of LINK lead.
use Rattle.std.proofs.Common.{◌≡◌, ℕ, ◌*◌, ◌==◌, true, false, List, [], ◌∷◌, length, get_or, set, Some, None, Ok, refl, sym, ap, ◌∙◌, subst, arith, inl, inr}
use Rattle.std.specs.List.{list_any}
use Rattle.std.proofs.lemmas.Bool.{cases_eq, ne_eqb, or_from}
use Rattle.std.proofs.lemmas.List.{get_or-set_other}
use Rattle.harp_types.specs.declared.attr.Time.{Time}
use Rattle.harp_types.specs.declared.call.Call.TheVariants as call
use Rattle.harp_types.specs.declared.cred.Cred.{Cred}
use Rattle.harp_types.specs.declared.reply.Reply.{Reply}
use Rattle.harp_types.specs.declared.reply.Status.TheVariants.{Perm}
use Rattle.file_tree.specs.declared.object.Slot.{Slot}
use Rattle.file_tree.specs.declared.object.Body.{Body}
use Rattle.file_tree.specs.declared.object.Object.{Object}
use Rattle.file_tree.specs.Tree.{Tree, Slots, place, slots_of, slots_within, free_from, with_entry, is_directory}
use Rattle.file_tree.specs.Tries.{live, room}
use Rattle.file_tree.specs.Permissions.{writing, allowed, searched}
use Rattle.file_tree.specs.Outcome.{change, reslotted, set_ctime, add_entry, free_name, link}
use Rattle.file_tree.proofs.Kept.{live_place}
use Rattle.file_tree.proofs.SlotLaws.{names_entered}
use Rattle.file_tree.proofs.Reslots.{Reslots, reslots_reslotted, own_place, other_place, change_is, place_set}
use Rattle.file_tree.proofs.SoundChanges.{one_other}
use Rattle.file_tree.proofs.TryLaws.{done, step, unless, given_at, IsDirectoryOf, searched_is}
use Rattle.harp_cells.specs.declared.cell.Cell.{Cell}
use Rattle.harp_cells.specs.declared.cell.Cell.TheVariants as cell
use Rattle.harp_cells.specs.Effect.{after, is_cell}
use Rattle.harp_cells.specs.CellsOfTree.{content_of, is_regular_at}
use Rattle.inode_dirs.specs.Slots.{HoldsSlots}
use Rattle.cell_changes.specs.TreeCells.{TreeCells}
use Rattle.cell_changes.specs.Stands.{AllStand, StandsAt, IsUnmoved, is_cell_of}
use Rattle.cell_changes.specs.Table.{set_by, free_slot, tree_changes}
use Rattle.cell_changes.proofs.Frame.{each_stands, unmoved_still}
use Rattle.cell_changes.proofs.SetCells.{is_among}
use Rattle.cell_changes.proofs.Unmoved.{unmoved_twice, unmoved_reslots, unmoved_set}
use Rattle.cell_changes.proofs.Touched.{among_first, among_later, blocks_stay, touched, untouched, slots_set, entered_beside}

-- the cells that a link sets
abbrev link_cells : ℕ → ℕ → ℕ → List Cell
link_cells dir i handle = cell.Slot dir i ∷ cell.Object dir ∷ cell.Object handle ∷ []

no_block : (dir i handle number block : ℕ)
    → is_among (link_cells dir i handle) (cell.Block number block) ≡ false
unfolding is_cell
no_block dir i handle number block = refl

not_of : (dir i handle number : ℕ) → (number ≡ dir → ⊥) → (number ≡ handle → ⊥)
    → list_any (is_cell_of number) (link_cells dir i handle) ≡ false
not_of dir i handle number not_dir not_handle =
    let apart : (dir == number) ≡ false = ne_eqb dir number (λ e. not_dir (sym e)) in
    or_from (dir == number) _ apart (or_from (dir == number) _ apart
    (or_from (handle == number) false (ne_eqb handle number (λ e. not_handle (sym e))) refl))

-- the slots with the entry, and the tree with them alone
abbrev entered : Slots → List ℕ → ℕ → Slots
entered slots name handle = with_entry slots (record { name = name; number = handle })

abbrev between : Tree → ℕ → ℕ → Slots → List ℕ → Time → Tree
between tree handle dir slots name now = change tree dir (reslotted now (entered slots name handle))

-- a directory that gets a further entry of a file or a link
record IsLinking (tree : Tree) (handle dir : ℕ) (new : Tree) : Type 0 where
  slots : Slots
  name : List ℕ
  now : Time
  object : Object
  lives : place tree handle ≡ Some object
  file : is_directory object.body ≡ false
  of : IsDirectoryOf tree dir slots
  becomes : new ≡ change (between tree handle dir slots name now) handle (set_ctime now)

apart : (tree : Tree) (handle dir : ℕ) (new : Tree)
    → IsLinking tree handle dir new
    → handle ≡ dir → ⊥
apart tree handle dir new m e =
    let same : Some m.object ≡ Some m.of.object = sym m.lives ∙ ap (place tree) e ∙ m.of.at in
    let one : m.object ≡ m.of.object = cc in
    let other : is_directory m.object.body ≡ true = ap (λ (o : Object). is_directory o.body) one
    ∙ ap is_directory m.of.body in
    let file = m.file in
    absurd cc

linking_reslots : (tree : Tree) (handle dir : ℕ) (new : Tree)
    → (m : IsLinking tree handle dir new)
    → Reslots tree (between tree handle dir m.slots m.name m.now) dir m.slots
    (entered m.slots m.name handle)
linking_reslots tree handle dir new m = reslots_reslotted tree dir m.of.object m.slots
    (entered m.slots m.name handle) m.now m.of.at m.of.body

between_place : (tree : Tree) (handle dir : ℕ) (new : Tree)
    (m : IsLinking tree handle dir new)
    → place (between tree handle dir m.slots m.name m.now) handle ≡ Some m.object
between_place tree handle dir new m =
    other_place tree (between tree handle dir m.slots m.name m.now) dir m.slots
    (entered m.slots m.name handle)
    (linking_reslots tree handle dir new m) handle
    (apart tree handle dir new m)
    ∙ m.lives

set_again : (tree : Tree) (handle dir : ℕ) (new : Tree)
    (m : IsLinking tree handle dir new)
    → new ≡ set (between tree handle dir m.slots m.name m.now) handle
    (Some (set_ctime m.now m.object))
set_again tree handle dir new m =
    m.becomes
    ∙ change_is (between tree handle dir m.slots m.name m.now) handle (set_ctime m.now) m.object
    (between_place tree handle dir new m)

-- the directory
linked_dir : (t : TreeCells) (handle dir : ℕ) (new : Tree)
    → IsLinking t.tree handle dir new
    → StandsAt (after (set_by new (link_cells dir (free_slot t.tree dir) handle)) t.cells) new dir
linked_dir t handle dir new m =
    let stand = each_stands t.cells t.tree t.stamp t.stand dir in
    let mid = between t.tree handle dir m.slots m.name m.now in
    let r = linking_reslots t.tree handle dir new m in
    let here : place new dir ≡ Some r.becomes =
    ap (λ (x : Tree). place x dir) (set_again t.tree handle dir new m)
    ∙ get_or-set_other mid handle dir (Some (set_ctime m.now m.object)) None
    (λ e. apart t.tree handle dir new m (sym e))
    ∙ own_place t.tree mid dir m.slots (entered m.slots m.name handle) r in
    let becomes = r.body_after in
    let content : content_of (place new dir) ≡ content_of (place t.tree dir) =
    ap content_of here ∙ ap (λ (b : Body). content_of (Some (record m.object { body = b }))) becomes
    ∙ sym (ap content_of m.of.at ∙ ap
    (λ (b : Body). content_of (Some (record m.object { body = b }))) m.of.body) in
    let kind : is_regular_at (place new dir) ≡ is_regular_at (place t.tree dir) =
    ap is_regular_at here ∙ ap (λ (b : Body). is_regular_at
    (Some (record m.object { body = b }))) becomes
    ∙ sym (ap is_regular_at m.of.at
    ∙ ap (λ (b : Body). is_regular_at (Some (record m.object { body = b }))) m.of.body) in
    let old_slots : slots_of (place t.tree dir) ≡ m.slots = ap slots_of m.of.at
    ∙ ap slots_within m.of.body in
    let new_slots : slots_of (place new dir) ≡ entered m.slots m.name handle = ap slots_of here
    ∙ ap slots_within becomes in
    touched t.cells new (link_cells dir (free_slot t.tree dir) handle) dir
    (among_later (cell.Slot dir (free_slot t.tree dir)) (cell.Object dir)
    (cell.Object dir ∷ cell.Object handle ∷ [])
    (among_first (cell.Object dir) (cell.Object handle ∷ [])))
    (λ block. no_block dir (free_slot t.tree dir) handle dir block)
    (blocks_stay t.cells t.tree new dir content kind stand)
    (slots_set t.cells new (link_cells dir (free_slot t.tree dir) handle) dir m.slots
    (subst (HoldsSlots t.cells dir) old_slots stand.slot)
    (λ slot other. ap (λ (ss : Slots). get_or ss slot None) new_slots
    ∙ entered_beside dir m.slots (record { name = m.name; number = handle })
    (cell.Object dir ∷ cell.Object handle ∷ []) slot
    (subst (λ (ss : Slots). is_among (link_cells dir (free_from 0 ss) handle)
    (cell.Slot dir slot) ≡ false) old_slots other)))

-- the file or the link
linked_object : (t : TreeCells) (handle dir : ℕ) (new : Tree)
    → IsLinking t.tree handle dir new
    → StandsAt (after (set_by new (link_cells dir (free_slot t.tree dir) handle)) t.cells) new
    handle
linked_object t handle dir new m =
    let stand = each_stands t.cells t.tree t.stamp t.stand handle in
    let mid = between t.tree handle dir m.slots m.name m.now in
    let set = link_cells dir (free_slot t.tree dir) handle in
    let here : place new handle ≡ Some (set_ctime m.now m.object) =
    ap (λ (x : Tree). place x handle) (set_again t.tree handle dir new m)
    ∙ place_set mid handle m.object (set_ctime m.now m.object)
    (between_place t.tree handle dir new m) in
    let content : content_of (place new handle) ≡ content_of (place t.tree handle) =
    ap content_of here
    ∙ sym (ap content_of m.lives) in
    let kind : is_regular_at (place new handle) ≡ is_regular_at (place t.tree handle) =
    ap is_regular_at here
    ∙ sym (ap is_regular_at m.lives) in
    let same : slots_of (place new handle) ≡ slots_of (place t.tree handle) = ap slots_of here
    ∙ sym (ap slots_of m.lives) in
    touched t.cells new set handle
    (among_later (cell.Slot dir (free_slot t.tree dir)) (cell.Object handle)
    (cell.Object dir ∷ cell.Object handle ∷ [])
    (among_later (cell.Object dir) (cell.Object handle) (cell.Object handle ∷ [])
    (among_first (cell.Object handle) [])))
    (λ block. no_block dir (free_slot t.tree dir) handle handle block)
    (blocks_stay t.cells t.tree new handle content kind stand)
    (slots_set t.cells new set handle (slots_of (place t.tree handle)) stand.slot
    (λ slot other. ap (λ (ss : Slots). get_or ss slot None) same))

-- every other number
linked_other : (t : TreeCells) (handle dir : ℕ) (new : Tree) (number : ℕ)
    → IsLinking t.tree handle dir new → (number ≡ dir → ⊥) → (number ≡ handle → ⊥)
    → StandsAt (after (set_by new (link_cells dir (free_slot t.tree dir) handle)) t.cells) new
    number
linked_other t handle dir new number m not_dir not_handle =
    let mid = between t.tree handle dir m.slots m.name m.now in
    let s : Slot = record { name = m.name; number = handle } in
    let later : IsUnmoved mid new number =
    rw (set_again t.tree handle dir new m)
    (unmoved_set mid handle m.object (set_ctime m.now m.object) number
    (between_place t.tree handle dir new m) refl (λ k. refl) not_handle) in
    untouched t.cells new (link_cells dir (free_slot t.tree dir) handle) number
    (not_of dir (free_slot t.tree dir) handle number not_dir not_handle)
    (unmoved_still t.cells t.tree new number
    (unmoved_twice t.tree mid new number
    (unmoved_reslots t.tree mid dir m.slots (entered m.slots m.name handle) number
    (linking_reslots t.tree handle dir new m) not_dir
    (omega (arith, names_entered m.slots s number, one_other handle number not_handle)))
    later)
    (each_stands t.cells t.tree t.stamp t.stand number))

linked : (t : TreeCells) (handle dir : ℕ) (new : Tree)
    → IsLinking t.tree handle dir new
    → AllStand (after (set_by new (link_cells dir (free_slot t.tree dir) handle)) t.cells) new
linked t handle dir new m number = elim (cases_eq number dir) [
  | inl e ↦
      subst (StandsAt (after (set_by new (link_cells dir (free_slot t.tree dir) handle)) t.cells)
      new) (sym e)
      (linked_dir t handle dir new m)
  | inr not_dir ↦ elim (cases_eq number handle) [
    | inl e ↦
        subst (StandsAt (after (set_by new (link_cells dir (free_slot t.tree dir) handle)) t.cells)
        new) (sym e)
        (linked_object t handle dir new m)
    | inr not_handle ↦ linked_other t handle dir new number m not_dir not_handle
  ]
]

-- what a link leads to
abbrev LinkLeads : TreeCells → ℕ → ℕ → Reply × Tree → Type 0
LinkLeads t handle dir x =
    AllStand (after (set_by x.1 (link_cells dir (free_slot t.tree dir) handle)) t.cells) x.1

added : (tree : Tree) (dir : ℕ) (slots : Slots) (s : Slot) (now : Time) (new : Tree)
    → add_entry tree dir slots s now ≡ Ok new
    → new ≡ change tree dir (reslotted now (with_entry slots s))
unfolding add_entry
added tree dir slots s now new e =
    given_at (add_entry tree dir slots s now)
    (λ (x : Tree). x ≡ change tree dir (reslotted now (with_entry slots s))) new
    (step (room tree dir (264 * length (with_entry slots s))) _
    (λ (x : Tree). x ≡ change tree dir (reslotted now (with_entry slots s)))
    (λ u enough. done _ (λ (x : Tree). x
    ≡ change tree dir (reslotted now (with_entry slots s))) refl)) e

pub link_leads : (t : TreeCells) (cred : Cred) (handle dir : ℕ) (name : List ℕ) (now : Time)
    (reply : Reply) (new : Tree)
    → link t.tree cred handle dir name now ≡ Ok (reply, new)
    → AllStand (after (tree_changes t.cells t.tree new (call.Link handle dir name)) t.cells) new
unfolding link tree_changes
link_leads t cred handle dir name now reply new e =
    given_at (link t.tree cred handle dir name now) (LinkLeads t handle dir) (reply, new)
    (step (live t.tree handle) _ (LinkLeads t handle dir) (λ o lives.
    step (searched t.tree cred dir) _ (LinkLeads t handle dir) (λ slots d.
    unless Perm (is_directory o.body) _ (LinkLeads t handle dir) (λ file.
    step (free_name slots name) _ (LinkLeads t handle dir) (λ u f.
    step (allowed t.tree cred dir writing) _ (LinkLeads t handle dir) (λ v may.
    step (add_entry t.tree dir slots (record { name = name; number = handle }) now) _
    (LinkLeads t handle dir)
    (λ mid g.
    done _ (LinkLeads t handle dir)
    (linked t handle dir (change mid handle (set_ctime now)) (record {
      slots = slots;
      name = name;
      now = now;
      object = o;
      lives = live_place t.tree handle o lives;
      file = file;
      of = searched_is t.tree cred dir slots d;
      becomes = ap (λ (x : Tree). change x handle (set_ctime now))
          (added t.tree dir slots (record { name = name; number = handle }) now mid g);
    }))))))))) e
