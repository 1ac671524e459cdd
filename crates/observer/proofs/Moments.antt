-- What the cells of a tree are where nothing has their number.
use Rattle.std.proofs.Common.{◌≡◌, ℕ, ◌*◌, ◌≤◌, ◌==◌, ◌⊎◌, false, List, length, get_or, take}
use Rattle.std.proofs.Common.{Option, Some, None, refl, sym, ap, ◌∙◌, arith, inl, inr}
use Rattle.std.proofs.lemmas.Bool.{both_ways, ne_eqb}
use Rattle.std.proofs.lemmas.List.{get_or_past}
use Rattle.file_tree.specs.declared.object.Object.{Object}
use Rattle.file_tree.specs.Book.{Entry, last_stamp, tree_after}
use Rattle.file_tree.specs.Sound.{IsSound}
use Rattle.file_tree.specs.Tree.{Tree, is_directory_at, place, slots_of}
use Rattle.file_tree.proofs.SoundLaws.{book_sound}
use Rattle.harp_cells.specs.declared.cell.Cell.TheVariants as cell
use Rattle.harp_cells.specs.declared.value.Value.{Value}
use Rattle.harp_cells.specs.CellsOfTree.{content_of, object_value, slot_value, stands_for}
use Rattle.cell_changes.specs.TreeCells.{TreeCells}
use Rattle.fuzzy_cells.specs.History.{cells_at}
use Rattle.record_changes.specs.Records.{AreUpdates, history_of}
use Rattle.record_changes.proofs.Histories.{stand}

-- the cells after the first n of these updates, and the tree that they stand for
abbrev pub moment : (entries : List Entry) → ℕ → AreUpdates entries → TreeCells
moment entries n updates = record {
  cells = cells_at (history_of entries) n;
  tree = tree_after (take n entries);
  stamp = last_stamp (take n entries);
  stand = (stand entries updates n).tree;
  sound = book_sound (take n entries);
}

-- ---- objects

no_value : (n : ℕ) (v : Option Value) → (n ≡ 1 → ⊥) → (tree : Tree)
    → stands_for tree (cell.Object n) v ≡ stands_for tree (cell.Object n) None → v ≡ None
no_value n None ne tree h = refl
no_value n (Some v) ne tree h =
    let t : (n == 1) ≡ false = ne_eqb n 1 ne in
    let is : Some v ≡ None = rw t at h in absurd cc

root_lives : (tree : Tree) (n : ℕ) → IsSound tree → place tree n ≡ None → n ≡ 1 → ⊥
root_lives tree n sound dead one =
    let none : is_directory_at (place tree 1) ≡ false =
    ap (λ (k : ℕ). is_directory_at (place tree k)) (sym one) ∙ ap is_directory_at dead in
    both_ways (is_directory_at (place tree 1)) none sound.root

pub dead_object : (t : TreeCells) (n : ℕ) → place t.tree n ≡ None → t.cells (cell.Object n) ≡ None
dead_object t n dead =
    no_value n (t.cells (cell.Object n)) (root_lives t.tree n t.sound dead) t.tree
    (t.stand.object n ∙ ap (λ (o : Option Object).
    stands_for t.tree (cell.Object n) (object_value t.tree n o)) dead)

-- ---- blocks and slots

pub no_block : (t : TreeCells) (n i : ℕ) → length (content_of (place t.tree n)) ≤ 4096 * i
    → t.cells (cell.Block n i) ≡ None
no_block t n i past = t.stand.ends n i past

plain_slot : (tree : Tree) (n i : ℕ) (v : Option Value) → stands_for tree (cell.Slot n i) v ≡ v
plain_slot tree n i None = refl
plain_slot tree n i (Some v) = refl

pub no_slot : (t : TreeCells) (n i : ℕ) → length (slots_of (place t.tree n)) ≤ i
    → t.cells (cell.Slot n i) ≡ None
no_slot t n i past =
    sym (plain_slot t.tree n i (t.cells (cell.Slot n i))) ∙ t.stand.slot n i
    ∙ plain_slot t.tree n i (slot_value (get_or (slots_of (place t.tree n)) i None))
    ∙ ap slot_value (get_or_past (slots_of (place t.tree n)) i None past)

pub dead_block : (t : TreeCells) (n i : ℕ) → place t.tree n ≡ None
    → t.cells (cell.Block n i) ≡ None
dead_block t n i dead =
    no_block t n i (omega (arith, ap (λ (o : Option Object). length (content_of o)) dead))

pub dead_slot : (t : TreeCells) (n i : ℕ) → place t.tree n ≡ None → t.cells (cell.Slot n i) ≡ None
dead_slot t n i dead =
    no_slot t n i (omega (arith, ap (λ (o : Option Object). length (slots_of o)) dead))

-- what has no number of an object
pub out_of_range : (tree : Tree) (n : ℕ) → IsSound tree → (n ≡ 0) ⊎ (length tree ≤ n)
    → place tree n ≡ None
out_of_range tree n sound odd = elim odd [
  | inl none ↦ ap (place tree) none ∙ sound.nothing_at_0
  | inr past ↦ get_or_past tree n None past
]
