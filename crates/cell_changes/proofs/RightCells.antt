-- Changes that set cells to their values by a tree: each cell that none of them sets has to stand
-- already.
use Rattle.std.proofs.Common.{◌≡◌, ◌*◌, ◌≤◌, Bool, true, false, List, [], ◌∷◌, ◌++◌, length, get_or}
use Rattle.std.proofs.Common.{Option, Some, None, refl, sym, ap, ◌∙◌, subst, inl, inr}
use Rattle.std.specs.Bool.{if◌then◌else◌}
use Rattle.std.specs.Prelude.{fold}
use Rattle.std.specs.List.{All, list_any}
use Rattle.std.proofs.lemmas.Bool.{cases_Bool, or_from, or_parts, both_ways}
use Rattle.std.proofs.lemmas.List.Elements.{All-head, All-tail, All-nil, All-cons}
use Rattle.std.proofs.lemmas.List.Folds.{list_any-append}
use Rattle.file_tree.specs.Tree.{Tree, place, slots_of}
use Rattle.harp_cells.specs.declared.cell.Cell.{Cell}
use Rattle.harp_cells.specs.declared.cell.Cell.TheVariants as cell
use Rattle.harp_cells.specs.declared.value.Value.{Value}
use Rattle.harp_cells.specs.declared.change.Change.{Change}
use Rattle.harp_cells.specs.declared.change.Change.TheVariants as change
use Rattle.harp_cells.specs.Effect.{Cells, is_cell, is_block_from, changed, after}
use Rattle.harp_cells.specs.CellsOfTree.{StandForSame, object_value, content_of, block_of, block_value, slot_value}
use Rattle.harp_cells.specs.CellsOfTree.{cell_of_tree}
use Rattle.harp_cells.proofs.TreeLaws.{blocks_end}
use Rattle.harp_cells.proofs.CellLemmas.{is_cell_true, is_cell_itself}
use Rattle.cell_changes.specs.Table.{no_updates, change_to, set_by}
use Rattle.cell_changes.specs.Stands.{AllStand}

-- ---- what a cell has to hold

-- a cell of the tree holds what stands for its value; no block is there past the end of its content
abbrev pub IsRight : Tree → Cell → Option Value → Type 0
IsRight tree (cell.Object n) v =
    StandForSame tree (cell.Object n) v (object_value tree n (place tree n))
IsRight tree (cell.Block n b) v =
    StandForSame tree (cell.Block n b) v (block_value (block_of (content_of (place tree n)) b))
    × (length (content_of (place tree n)) ≤ 4096 * b → v ≡ None)
IsRight tree (cell.Slot n s) v = v ≡ slot_value (get_or (slots_of (place tree n)) s None)
IsRight tree cell.Meta v = Unit {0}
IsRight tree (cell.Client client) v = Unit {0}
IsRight tree (cell.Saved at) v = Unit {0}

all_from_right : (cells : Cells) (tree : Tree) → ((c : Cell) → IsRight tree c (cells c))
    → AllStand cells tree
all_from_right cells tree right number = record {
  object = right (cell.Object number);
  block = λ block. (right (cell.Block number block)).0;
  ends = λ block past. (right (cell.Block number block)).1 past;
  slot = λ slot. right (cell.Slot number slot);
}

right_by : (tree : Tree) (c : Cell) → IsRight tree c (cell_of_tree tree 0 no_updates c)
right_by tree (cell.Object n) = refl
right_by tree (cell.Block n b) = (refl, λ past. blocks_end tree 0 no_updates n b past)
right_by tree (cell.Slot n s) = refl
right_by tree cell.Meta = tt
right_by tree (cell.Client client) = tt
right_by tree (cell.Saved at) = tt

-- ---- what a change sets

abbrev pub sets_cell : Cell → Change → Bool
sets_cell c (change.Put d v) = is_cell d c
sets_cell c (change.Erase d) = is_cell d c
sets_cell c (change.EraseFrom object first) = is_block_from object first c

-- none of these changes sets the cell
abbrev pub Spares : Cell → List Change → Type 0
Spares c changes = list_any (sets_cell c) changes ≡ false

spared : (c : Cell) (held : Option Value) (ch : Change) → sets_cell c ch ≡ false
    → changed c held ch ≡ held
spared c held (change.Put d v) e = rw e refl
spared c held (change.Erase d) e = rw e refl
spared c held (change.EraseFrom object first) e = rw e refl

-- what a change sets is right in a tree
abbrev pub IsBy : Tree → Change → Type 0
IsBy tree ch = (c : Cell) (held : Option Value) → sets_cell c ch ≡ true
    → IsRight tree c (changed c held ch)

right_after : (tree : Tree) (c : Cell) (changes : List Change) (held : Option Value)
    → All (IsBy tree) changes
    → (Spares c changes → IsRight tree c held) → IsRight tree c (fold (changed c) held changes)
right_after tree c [] held by right = right refl
right_after tree c (ch ∷ changes) held by right =
    right_after tree c changes (changed c held ch) (All-tail (IsBy tree) ch changes by)
    (λ others. elim (cases_Bool (sets_cell c ch)) [
      | inl sets ↦ All-head (IsBy tree) ch changes by c held sets
      | inr spares ↦
          subst (IsRight tree c) (sym (spared c held ch spares))
          (right (or_from (sets_cell c ch) (list_any (sets_cell c) changes) spares others))
    ])

-- where each cell that isn't set is right, all stand
pub all_stand_after : (cells : Cells) (tree : Tree) (changes : List Change)
    → All (IsBy tree) changes
    → ((c : Cell) → Spares c changes → IsRight tree c (cells c))
    → AllStand (after changes cells) tree
all_stand_after cells tree changes by right =
    all_from_right (after changes cells) tree
    (λ c. right_after tree c changes (cells c) by (right c))

-- ---- cells that are set by a tree

set_to : (tree : Tree) (d c : Cell) (v : Option Value) (held : Option Value) → is_cell d c ≡ true
    → changed c held (change_to d v) ≡ v
set_to tree d c None held e = rw e refl
set_to tree d c (Some v) held e = rw e refl

sets_to : (c d : Cell) (v : Option Value) → sets_cell c (change_to d v) ≡ is_cell d c
sets_to c d None = refl
sets_to c d (Some v) = refl

by_one : (tree : Tree) (d : Cell) → IsBy tree (change_to d (cell_of_tree tree 0 no_updates d))
by_one tree d c held sets =
    let same = sym (sets_to c d (cell_of_tree tree 0 no_updates d)) ∙ sets in
    let value = set_to tree d c (cell_of_tree tree 0 no_updates d) held same in
    subst (IsRight tree c) (sym (value
    ∙ ap (cell_of_tree tree 0 no_updates) (is_cell_true d c same))) (right_by tree c)

pub by_set : (tree : Tree) (cells : List Cell) → All (IsBy tree) (set_by tree cells)
by_set tree [] = All-nil (IsBy tree)
by_set tree (d ∷ cells) =
    All-cons (IsBy tree) (change_to d (cell_of_tree tree 0 no_updates d)) (set_by tree cells)
    (by_one tree d) (by_set tree cells)

spared_cells : (tree : Tree) (c : Cell) (cells : List Cell) → Spares c (set_by tree cells)
    → list_any (λ d. is_cell d c) cells ≡ false
spared_cells tree c [] e = refl
spared_cells tree c (d ∷ cells) e =
    let v = cell_of_tree tree 0 no_updates d in
    let parts =
    or_parts (sets_cell c (change_to d v)) (list_any (sets_cell c) (set_by tree cells)) e in
    or_from (is_cell d c) (list_any (λ x. is_cell x c) cells) (sym (sets_to c d v) ∙ parts.0)
    (spared_cells tree c cells parts.1)

-- two lists of changes
pub spared_both : (c : Cell) (xs ys : List Change) → Spares c (xs ++ ys) → Spares c xs × Spares c ys
spared_both c xs ys e = or_parts (list_any (sets_cell c) xs) (list_any (sets_cell c) ys)
    (sym (list_any-append (sets_cell c) xs ys) ∙ e)

-- the first of some cells isn't set
pub first_other : (tree : Tree) (c d : Cell) (cells : List Cell)
    → Spares c (set_by tree (d ∷ cells)) → d ≡ c → ⊥
first_other tree c d cells e same =
    let parts =
    or_parts (is_cell d c) (list_any (λ x. is_cell x c) cells)
    (spared_cells tree c (d ∷ cells) e) in
    both_ways _ parts.0 (subst (λ (x : Cell). is_cell d x ≡ true) same (is_cell_itself d d refl))

pub rest_spared : (tree : Tree) (c d : Cell) (cells : List Cell)
    → Spares c (set_by tree (d ∷ cells)) → Spares c
    (set_by tree cells)
rest_spared tree c d cells e =
    let v = cell_of_tree tree 0 no_updates d in
    (or_parts (sets_cell c (change_to d v)) (list_any (sets_cell c) (set_by tree cells)) e).1

-- two cells, or one that both are
pub pair_other : (tree : Tree) (c : Cell) (same : Bool) (one d e : Cell) → (same ≡ true → d ≡ one)
    → (same ≡ true
    → e ≡ one)
    → Spares c (set_by tree (if same then one ∷ [] else d ∷ e ∷ [])) → (d ≡ c → ⊥) × (e ≡ c → ⊥)
pair_other tree c true one d e first second spares =
    let other = first_other tree c one [] spares in
    (λ x. other (sym (first refl) ∙ x), λ x. other (sym (second refl) ∙ x))
pair_other tree c false one d e first second spares = (
  first_other tree c d (e ∷ []) spares,
  first_other tree c e [] (rest_spared tree c d (e ∷ []) spares),
)
