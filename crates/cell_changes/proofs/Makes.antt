-- The changes of MKDIR, SYMLINK and CREATE lead.
use Rattle.std.proofs.Common.{◌≡◌, ℕ, ◌==◌, true, false, List, [], ◌∷◌, ◌++◌, length, get_or, Option, Some, None, refl, sym, ap, ◌∙◌, subst, arith, inl, inr}
use Rattle.std.specs.List.{list_any}
use Rattle.std.proofs.lemmas.Bool.{cases_eq, eq-eqb, ne_eqb, or_from}
use Rattle.std.proofs.lemmas.List.{get_or_past, get_or_push}
use Rattle.harp_types.specs.declared.attr.Time.{Time}
use Rattle.file_tree.specs.declared.object.Body.{Body}
use Rattle.file_tree.specs.declared.object.Body.TheVariants as body
use Rattle.file_tree.specs.declared.object.Object.{Object}
use Rattle.file_tree.specs.Tree.{Tree, Slots, place, slots_of, slots_within, names_in, free_from, with_entry}
use Rattle.file_tree.specs.Outcome.{with_object}
use Rattle.file_tree.proofs.Kept.{place_within, place_push}
use Rattle.file_tree.proofs.SlotLaws.{names_entered}
use Rattle.file_tree.proofs.Reslots.{Reslots, reslots_reslotted, own_place, other_place}
use Rattle.file_tree.proofs.SoundChanges.{one_other}
use Rattle.harp_cells.specs.declared.cell.Cell.{Cell}
use Rattle.harp_cells.specs.declared.cell.Cell.TheVariants as cell
use Rattle.harp_cells.specs.Effect.{Cells, after, is_cell}
use Rattle.harp_cells.specs.CellsOfTree.{content_of, is_regular_at, slot_value}
use Rattle.inode_blocks.specs.Holds.{EndsAt}
use Rattle.inode_blocks.specs.Changes.{text_put}
use Rattle.inode_blocks.proofs.TreeLaws.{text_apart}
use Rattle.inode_dirs.specs.Slots.{HoldsSlots}
use Rattle.cell_changes.specs.TreeCells.{TreeCells}
use Rattle.cell_changes.specs.Stands.{AllStand, StandsAt, IsUnmoved, is_cell_of}
use Rattle.cell_changes.specs.Table.{set_by, free_slot, makes}
use Rattle.cell_changes.proofs.Frame.{stands_by, each_stands, unmoved_still}
use Rattle.cell_changes.proofs.SetCells.{is_among, in_a_row, set_leaves}
use Rattle.cell_changes.proofs.Unmoved.{unmoved_twice, unmoved_reslots, unmoved_pushed}
use Rattle.cell_changes.proofs.Touched.{among_first, among_later, among_others, other_blocks, BlocksStand, blocks_stay, blocks_by, touched, untouched, slots_set, entered_beside}

-- ---- which cells are set

slot_no_block : (dir i number block : ℕ)
    → is_among (cell.Slot dir i ∷ []) (cell.Block number block) ≡ false
unfolding is_cell
slot_no_block dir i number block = refl

slot_not_of : (number dir i : ℕ) → (number ≡ dir → ⊥)
    → list_any (is_cell_of number) (cell.Slot dir i ∷ []) ≡ false
slot_not_of number dir i other =
    or_from (dir == number) false (ne_eqb dir number (λ e. other (sym e))) refl

objects_no_block : (a b number block : ℕ) → is_among (cell.Object a ∷ cell.Object b ∷ [])
    (cell.Block number block) ≡ false
unfolding is_cell
objects_no_block a b number block = refl

objects_not_of : (number a b : ℕ) → (number ≡ a → ⊥) → (number ≡ b → ⊥)
    → list_any (is_cell_of number) (cell.Object a ∷ cell.Object b ∷ []) ≡ false
objects_not_of number a b not_a not_b =
    or_from (a == number) _ (ne_eqb a number (λ e. not_a (sym e)))
    (or_from (b == number) false (ne_eqb b number (λ e. not_b (sym e))) refl)

-- ---- a tree with a new object

-- a directory of a tree that gets an entry for a new object without entries of its own
pub record IsMaking (tree : Tree) (dir : ℕ) (o : Object) (new : Tree) : Type 0 where
  pub slots : Slots
  pub name : List ℕ
  pub now : Time
  pub directory : Object
  pub at : place tree dir ≡ Some directory
  pub body : directory.body ≡ body.Directory slots
  pub bare : slots_within o.body ≡ []
  pub becomes : new ≡ with_object tree dir
      (with_entry slots (record { name = name; number = length tree })) o now

-- the tree with the object alone
abbrev pushed : Tree → Object → Tree
pushed tree o = tree ++ Some o ∷ []

-- the slots with the entry
abbrev entered : Tree → Slots → List ℕ → Slots
entered tree slots name = with_entry slots (record { name = name; number = length tree })

making_reslots : (tree : Tree) (dir : ℕ) (o : Object) (new : Tree)
    → (m : IsMaking tree dir o new)
    → Reslots (pushed tree o) new dir m.slots (entered tree m.slots m.name)
making_reslots tree dir o new m =
    let at = place_push tree (Some o) dir (place_within tree dir m.directory m.at) ∙ m.at in
    rw m.becomes (reslots_reslotted (pushed tree o) dir m.directory m.slots
    (entered tree m.slots m.name) m.now at m.body)

new_is_other : (tree : Tree) (dir : ℕ) (o : Object) (new : Tree)
    → IsMaking tree dir o new
    → length tree ≡ dir → ⊥
new_is_other tree dir o new m e = omega (arith, e, place_within tree dir m.directory m.at)

pub new_place : (tree : Tree) (dir : ℕ) (o : Object) (new : Tree)
    → IsMaking tree dir o new
    → place new (length tree) ≡ Some o
new_place tree dir o new m =
    other_place (pushed tree o) new dir m.slots (entered tree m.slots m.name)
    (making_reslots tree dir o new m) (length tree)
    (new_is_other tree dir o new m)
    ∙ get_or_push tree (Some o) None (length tree) refl

made_unmoved : (t : TreeCells) (dir : ℕ) (o : Object) (new : Tree)
    (number : ℕ)
    → IsMaking t.tree dir o new → (number ≡ dir → ⊥) → (number ≡ length t.tree → ⊥)
    → IsUnmoved t.tree new number
made_unmoved t dir o new number m not_dir not_new =
    let entry = names_entered m.slots (record { name = m.name; number = length t.tree }) number in
    unmoved_twice t.tree (pushed t.tree o) new number
    (unmoved_pushed t.tree o number t.sound (λ k. ap (names_in k) m.bare) not_new)
    (unmoved_reslots (pushed t.tree o) new dir m.slots (entered t.tree m.slots m.name) number
    (making_reslots t.tree dir o new m) not_dir
    (omega (arith, entry, one_other (length t.tree) number not_new)))

-- ---- what stands after the entry and the text

-- the cells with the entry
abbrev with_slot : TreeCells → ℕ → Tree → Cells
with_slot t dir new = after (set_by new (cell.Slot dir (free_slot t.tree dir) ∷ [])) t.cells

-- and with the text
abbrev with_text : TreeCells → ℕ → Tree → List ℕ → Cells
with_text t dir new text = after (text_put (length t.tree) text) (with_slot t dir new)

-- no block of a new object is there before its text
none_yet : (t : TreeCells) (dir : ℕ) (new : Tree) → EndsAt (with_slot t dir new) (length t.tree) 0
none_yet t dir new block past =
    set_leaves new (cell.Slot dir (free_slot t.tree dir) ∷ []) t.cells
    (cell.Block (length t.tree) block)
    (slot_no_block dir (free_slot t.tree dir) (length t.tree) block)
    ∙ t.stand.ends (length t.tree) block
    (rw (get_or_past t.tree (length t.tree) None (omega arith)) (omega arith))

-- nor a slot
no_slots : (t : TreeCells) → HoldsSlots t.cells (length t.tree) []
no_slots t slot =
    (each_stands t.cells t.tree t.stamp t.stand (length t.tree)).slot slot
    ∙ ap (λ (x : Option Object). slot_value (get_or (slots_of x) slot None))
    (get_or_past t.tree (length t.tree) None (omega arith))

-- the blocks of the new object stand after its text was put where no block is
abbrev pub TextStands : ℕ → List ℕ → Tree → Type 0
TextStands number text new = (cells : Cells) → EndsAt cells number 0
    → BlocksStand (after (text_put number text) cells) new number

-- ---- each number

entry_others : (t : TreeCells) (dir : ℕ) (new : Tree) (text : List ℕ) (number : ℕ) (c : Cell)
    → (number ≡ dir → ⊥)
    → (number ≡ length t.tree → ⊥)
    → is_cell_of number c ≡ true → with_text t dir new text c ≡ t.cells c
entry_others t dir new text number c not_dir not_new of =
    text_apart (with_slot t dir new) (length t.tree) text c
    (other_blocks number (length t.tree) c not_new of)
    ∙ set_leaves new (cell.Slot dir (free_slot t.tree dir) ∷ []) t.cells c
    (among_others (cell.Slot dir (free_slot t.tree dir) ∷ []) number c
    (slot_not_of number dir (free_slot t.tree dir) not_dir) of)

-- the directory
made_dir : (t : TreeCells) (dir : ℕ) (o : Object) (new : Tree)
    (text : List ℕ)
    → IsMaking t.tree dir o new
    → StandsAt (after (set_by new (cell.Object dir ∷ cell.Object (length t.tree) ∷ []))
    (with_text t dir new text)) new dir
made_dir t dir o new text m =
    let stand = each_stands t.cells t.tree t.stamp t.stand dir in
    let r = making_reslots t.tree dir o new m in
    let here = own_place (pushed t.tree o) new dir m.slots (entered t.tree m.slots m.name) r in
    let becomes = r.body_after in
    let same_block : (block : ℕ) → with_text t dir new text (cell.Block dir block)
    ≡ t.cells (cell.Block dir block) =
    λ (block : ℕ).
    text_apart (with_slot t dir new) (length t.tree) text (cell.Block dir block)
    (ne_eqb dir (length t.tree) (λ e. new_is_other t.tree dir o new m (sym e)))
    ∙ set_leaves new (cell.Slot dir (free_slot t.tree dir) ∷ []) t.cells (cell.Block dir block)
    (slot_no_block dir (free_slot t.tree dir) dir block) in
    let content : content_of (place new dir) ≡ content_of (place t.tree dir) =
    ap content_of here ∙ ap (λ (b : Body). content_of (Some (record o { body = b }))) becomes
    ∙ sym (ap content_of m.at ∙ ap (λ (b : Body). content_of
    (Some (record o { body = b }))) m.body) in
    let kind : is_regular_at (place new dir) ≡ is_regular_at (place t.tree dir) =
    ap is_regular_at here ∙ ap (λ (b : Body). is_regular_at (Some (record o { body = b }))) becomes
    ∙ sym (ap is_regular_at m.at ∙ ap
    (λ (b : Body). is_regular_at (Some (record o { body = b }))) m.body) in
    let old_slots : slots_of (place t.tree dir) ≡ m.slots = ap slots_of m.at
    ∙ ap slots_within m.body in
    let new_slots : slots_of (place new dir) ≡ entered t.tree m.slots m.name = ap slots_of here
    ∙ ap slots_within becomes in
    let entry : HoldsSlots (with_slot t dir new) dir (slots_of (place new dir)) =
    slots_set t.cells new (cell.Slot dir (free_slot t.tree dir) ∷ []) dir m.slots
    (subst (HoldsSlots t.cells dir) old_slots stand.slot)
    (λ slot other. ap (λ (ss : Slots). get_or ss slot None) new_slots
    ∙ entered_beside dir m.slots (record { name = m.name; number = length t.tree }) [] slot
    (subst (λ (ss : Slots). is_among (cell.Slot dir (free_from 0 ss) ∷ [])
    (cell.Slot dir slot) ≡ false) old_slots other)) in
    touched (with_text t dir new text) new (cell.Object dir ∷ cell.Object (length t.tree) ∷ []) dir
    (among_first (cell.Object dir) (cell.Object (length t.tree) ∷ []))
    (λ block. objects_no_block dir (length t.tree) dir block)
    (blocks_by t.cells (with_text t dir new text) new dir same_block
    (blocks_stay t.cells t.tree new dir content kind stand))
    (slots_set (with_text t dir new text) new
    (cell.Object dir ∷ cell.Object (length t.tree) ∷ []) dir
    (slots_of (place new dir))
    (λ slot. text_apart (with_slot t dir new) (length t.tree) text (cell.Slot dir slot) refl
    ∙ entry slot)
    (λ slot other. refl))

-- the new object
made_new : (t : TreeCells) (dir : ℕ) (o : Object) (new : Tree)
    (text : List ℕ)
    → IsMaking t.tree dir o new → TextStands (length t.tree) text new
    → StandsAt (after (set_by new (cell.Object dir ∷ cell.Object (length t.tree) ∷ []))
    (with_text t dir new text)) new (length t.tree)
made_new t dir o new text m stands =
    let no_slot : slots_of (place new (length t.tree)) ≡ [] =
    ap slots_of (new_place t.tree dir o new m) ∙ m.bare in
    touched (with_text t dir new text) new (cell.Object dir ∷ cell.Object (length t.tree) ∷ [])
    (length t.tree)
    (among_later (cell.Object dir) (cell.Object (length t.tree)) (cell.Object (length t.tree) ∷ [])
    (among_first (cell.Object (length t.tree)) []))
    (λ block. objects_no_block dir (length t.tree) (length t.tree) block)
    (stands (with_slot t dir new) (none_yet t dir new))
    (slots_set (with_text t dir new text) new (cell.Object dir ∷ cell.Object (length t.tree) ∷ [])
    (length t.tree) []
    (λ slot. text_apart (with_slot t dir new) (length t.tree) text
    (cell.Slot (length t.tree) slot) refl
    ∙ set_leaves new (cell.Slot dir (free_slot t.tree dir) ∷ []) t.cells
    (cell.Slot (length t.tree) slot)
    (among_others (cell.Slot dir (free_slot t.tree dir) ∷ []) (length t.tree)
    (cell.Slot (length t.tree) slot)
    (slot_not_of (length t.tree) dir (free_slot t.tree dir) (new_is_other t.tree dir o new m))
    (eq-eqb (length t.tree) (length t.tree) refl))
    ∙ no_slots t slot)
    (λ slot other. ap (λ (ss : Slots). get_or ss slot None) no_slot))

-- every other number
made_other : (t : TreeCells) (dir : ℕ) (o : Object) (new : Tree)
    (text : List ℕ) (number : ℕ)
    → IsMaking t.tree dir o new → (number ≡ dir → ⊥) → (number ≡ length t.tree → ⊥)
    → StandsAt (after (set_by new (cell.Object dir ∷ cell.Object (length t.tree) ∷ []))
    (with_text t dir new text)) new number
made_other t dir o new text number m not_dir not_new =
    untouched (with_text t dir new text) new
    (cell.Object dir ∷ cell.Object (length t.tree) ∷ []) number
    (objects_not_of number dir (length t.tree) not_dir not_new)
    (stands_by t.cells (with_text t dir new text) new number
    (λ c of. entry_others t dir new text number c not_dir not_new of)
    (unmoved_still t.cells t.tree new number (made_unmoved t dir o new number m not_dir not_new)
    (each_stands t.cells t.tree t.stamp t.stand number)))

-- a new object and its entry
pub makes_lead : (t : TreeCells) (dir : ℕ) (o : Object) (new : Tree)
    (text : List ℕ)
    → IsMaking t.tree dir o new → TextStands (length t.tree) text new
    → AllStand (after (makes t.tree new dir text) t.cells) new
makes_lead t dir o new text m stands number =
    in_a_row (set_by new (cell.Slot dir (free_slot t.tree dir) ∷ []))
    (text_put (length t.tree) text ++ set_by new
    (cell.Object dir ∷ cell.Object (length t.tree) ∷ [])) t.cells new number
    (in_a_row (text_put (length t.tree) text)
    (set_by new (cell.Object dir ∷ cell.Object (length t.tree) ∷ []))
    (with_slot t dir new) new number
    (elim (cases_eq number dir) [
      | inl e ↦
          subst (StandsAt (after (set_by new (cell.Object dir ∷ cell.Object (length t.tree) ∷ []))
          (with_text t dir new text)) new) (sym e)
          (made_dir t dir o new text m)
      | inr not_dir ↦ elim (cases_eq number (length t.tree)) [
        | inl e ↦
            subst (StandsAt (after (set_by new (cell.Object dir ∷ cell.Object (length t.tree) ∷ []))
            (with_text t dir new text)) new) (sym e)
            (made_new t dir o new text m stands)
        | inr not_new ↦ made_other t dir o new text number m not_dir not_new
      ]
    ]))
