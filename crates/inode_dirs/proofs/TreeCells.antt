-- The cells of a tree, and the slots and parents that they hold.
use Rattle.std.proofs.Common.{◌≡◌, ℕ, ◌*◌, ◌≤◌, ◌==◌, Bool, true, false, cond, length, get_or, Option, Some, None}
use Rattle.std.proofs.Common.{refl, sym, ap, ◌∙◌, subst, arith, inl, inr}
use Rattle.std.proofs.lemmas.Bool.{cases_eq, cases_Bool, ne_eqb}
use Rattle.file_tree.specs.declared.object.Object.{Object}
use Rattle.file_tree.specs.Tree.{Tree, place, slots_of, slots_within, blocks_at, is_directory_at, parent_of}
use Rattle.file_tree.proofs.Bounds.{blocks_placed, slots_fit}
use Rattle.file_tree.proofs.TryLaws.{directory_is}
use Rattle.harp_cells.specs.declared.value.Inode.{Inode}
use Rattle.harp_cells.specs.declared.value.Value.{Value}
use Rattle.harp_cells.specs.declared.value.Value.TheVariants as value
use Rattle.harp_cells.specs.declared.cell.Cell.TheVariants as cell
use Rattle.harp_cells.specs.CellsOfTree.{object_value, slot_value, stands_for}
use Rattle.inode_dirs.specs.Slots.{HoldsSlots}
use Rattle.inode_dirs.specs.Parents.{parent_by}
use Rattle.inode_dirs.specs.Laws.{TreesTellSlots, TreesTellParents, SlotsArePlaced, TreesHoldSlots, HeldSlotsStand}
use Rattle.inode_dirs.specs.Laws.{TreesHoldParents, StoredParentsAreComputed, CookiesFit, EntriesAreUnderParent}

pub slots_placed : SlotsArePlaced
slots_placed tree dir slots e = let is = directory_is tree dir slots e in
    ap slots_of is.at ∙ ap slots_within is.body

-- ---- slots

itself : (tree : Tree) (dir slot : ℕ) (v : Option Value)
    → stands_for tree (cell.Slot dir slot) v ≡ v
itself tree dir slot None = refl
itself tree dir slot (Some v) = refl

pub trees_hold_slots : TreesHoldSlots
trees_hold_slots cells tree stamp dir is slot =
    sym (itself tree dir slot (cells (cell.Slot dir slot)))
    ∙ is.slot dir slot
    ∙ itself tree dir slot (slot_value (get_or (slots_of (place tree dir)) slot None))

pub held_slots_stand : HeldSlotsStand
held_slots_stand cells tree dir slot holds = ap (stands_for tree (cell.Slot dir slot)) (holds slot)

few_slots : (x : Option Object) → 264 * length (slots_of x) ≤ 4096 * blocks_at x
few_slots None = omega arith
few_slots (Some o) = omega (arith, slots_fit o.body)

pub cookies_fit : CookiesFit
cookies_fit tree dir is = omega (arith, few_slots (place tree dir), blocks_placed tree dir, is.room)

pub entries_are_under_parent : EntriesAreUnderParent
entries_are_under_parent tree dir slots = refl

-- ---- parents

parent_itself : (tree : Tree) (number : ℕ) (v : Option Value)
    → parent_by number (stands_for tree (cell.Object number) v) ≡ parent_by number v
parent_itself tree number None = elim (cases_Bool (number == 1)) [
  | inl t ↦ rw t refl
  | inr t ↦ rw t (ap (λ (b : Bool). cond b 1 0) t)
]
parent_itself tree number (Some v) = refl

dead_parent : (tree : Tree) (number : ℕ) → is_directory_at (place tree number) ≡ false
    → parent_of tree number ≡ 0
unfolding parent_of
dead_parent tree number e = rw e refl

placed_parent : (tree : Tree) (number : ℕ) (x : Option Object)
    → is_directory_at (place tree 1) ≡ true
    → place tree number ≡ x
    → parent_by number (object_value tree number x) ≡ parent_of tree number
placed_parent tree number None root at =
    let no_directory : is_directory_at (place tree number) ≡ false = ap is_directory_at at in
    elim (cases_eq number 1) [
      | inl e ↦ let at_root : is_directory_at (place tree 1) ≡ false = rw e at no_directory in
          absurd cc
      | inr ne ↦ let t : (number == 1) ≡ false = ne_eqb number 1 ne in
          rw (t, dead_parent tree number no_directory) refl
    ]
placed_parent tree number (Some o) root at = refl

pub trees_hold_parents : TreesHoldParents
trees_hold_parents cells tree stamp root is number =
    sym (parent_itself tree number (cells (cell.Object number)))
    ∙ ap (parent_by number) (is.object number)
    ∙ parent_itself tree number (object_value tree number (place tree number))
    ∙ placed_parent tree number (place tree number) root refl

stored_in : (tree : Tree) (number : ℕ) (inode : Inode) (x : Option Object)
    → is_directory_at x ≡ true
    → Some (value.Object inode) ≡ stands_for tree (cell.Object number) (object_value tree number x)
    → inode.parent ≡ parent_of tree number
stored_in tree number inode None d e = absurd cc
stored_in tree number inode (Some o) d e = cc

pub stored_parents_are_computed : StoredParentsAreComputed
stored_parents_are_computed cells tree stamp number inode is at d =
    let stands = ap (stands_for tree (cell.Object number)) (sym at) ∙ is.object number in
    stored_in tree number inode (place tree number) d stands

-- ---- what they tell

pub trees_tell_slots : TreesTellSlots
trees_tell_slots told cells tree stamp dir slots are is d = record {
  cells = cells;
  are = are;
  holds = subst (HoldsSlots cells dir) (slots_placed tree dir slots d)
      (trees_hold_slots cells tree stamp dir is);
  count = refl;
}

pub trees_tell_parents : TreesTellParents
trees_tell_parents told cells tree stamp are sound is = record {
  cells = cells;
  are = are;
  holds = trees_hold_parents cells tree stamp sound.root is;
}
