-- What the cells hold after changes that set some of them by a tree.
use Rattle.std.proofs.Common.{◌≡◌, ℕ, ◌||◌, Bool, true, false, List, [], ◌∷◌, ◌++◌, length, Option, Some, None, refl, ap, ◌∙◌, inl, inr}
use Rattle.std.specs.Bool.{if◌then◌else◌}
use Rattle.std.specs.Prelude.{fold}
use Rattle.std.specs.List.{list_any}
use Rattle.std.proofs.lemmas.Bool.{cases_Bool}
use Rattle.file_tree.specs.Tree.{Tree, used_blocks}
use Rattle.harp_cells.specs.declared.cell.Cell.{Cell}
use Rattle.harp_cells.specs.declared.cell.Cell.TheVariants as cell
use Rattle.harp_cells.specs.declared.value.Value.{Value}
use Rattle.harp_cells.specs.declared.value.Value.TheVariants as value
use Rattle.harp_cells.specs.declared.change.Change.{Change}
use Rattle.harp_cells.specs.Effect.{Cells, after, changed, is_cell}
use Rattle.harp_cells.specs.CellsOfTree.{StandForTree, cell_of_tree}
use Rattle.harp_cells.proofs.CellLemmas.{is_cell_true}
use Rattle.harp_cells.proofs.TreeLaws.{changes_append}
use Rattle.cell_changes.specs.Stands.{AllStand, StandsAt, is_cell_of}
use Rattle.cell_changes.specs.Table.{no_updates, change_to, set_by, meta_put}
use Rattle.cell_changes.proofs.Frame.{stands_by, all_stand}

-- a cell is among these
abbrev pub is_among : List Cell → Cell → Bool
is_among cells c = list_any (λ d. is_cell d c) cells

-- the value of a cell by a tree
abbrev pub value_by : Tree → Cell → Option Value
value_by tree c = cell_of_tree tree 0 no_updates c

change_gives : (d c : Cell) (v held : Option Value)
    → changed c held (change_to d v) ≡ (if is_cell d c then v else held)
change_gives d c None held = refl
change_gives d c (Some v) held = refl

one_set : (tree : Tree) (d c : Cell) (held : Option Value)
    → changed c held (change_to d (value_by tree d)) ≡ (if is_cell d c then value_by tree c
    else held)
one_set tree d c held = change_gives d c (value_by tree d) held ∙ elim (cases_Bool (is_cell d c)) [
  | inl t ↦ let e = is_cell_true d c t in rw t (ap (value_by tree) e)
  | inr t ↦ rw t refl
]

either_set : (b rest : Bool) (v held : Option Value)
    → (if rest then v else (if b then v else held)) ≡ (if b || rest then v else held)
either_set true true v held = refl
either_set true false v held = refl
either_set false true v held = refl
either_set false false v held = refl

all_set : (tree : Tree) (cells : List Cell) (c : Cell) (held : Option Value)
    → fold (changed c) held (set_by tree cells) ≡ (if is_among cells c then value_by tree c
    else held)
all_set tree [] c held = refl
all_set tree (d ∷ cells) c held =
    ap (λ (v : Option Value). fold (changed c) v (set_by tree cells)) (one_set tree d c held)
    ∙ all_set tree cells c (if is_cell d c then value_by tree c else held)
    ∙ either_set (is_cell d c) (is_among cells c) (value_by tree c) held

-- a cell that is set has its value by the tree
pub set_gives : (tree : Tree) (set : List Cell) (cells : Cells) (c : Cell) → is_among set c ≡ true
    → after (set_by tree set) cells c ≡ value_by tree c
set_gives tree set cells c is =
    all_set tree set c (cells c)
    ∙ ap (λ (t : Bool). if◌then◌else◌ {A = Option Value} t (value_by tree c) (cells c)) is

-- and every other is as before
pub set_leaves : (tree : Tree) (set : List Cell) (cells : Cells) (c : Cell) → is_among set c ≡ false
    → after (set_by tree set) cells c ≡ cells c
set_leaves tree set cells c other =
    all_set tree set c (cells c)
    ∙ ap (λ (t : Bool). if◌then◌else◌ {A = Option Value} t (value_by tree c) (cells c)) other

-- what stands after changes made one after the other stands after both in a row
pub in_a_row : (changes more : List Change) (cells : Cells) (tree : Tree) (number : ℕ)
    → StandsAt (after more (after changes cells)) tree number
    → StandsAt (after (changes ++ more) cells) tree number
in_a_row changes more cells tree number stand =
    stands_by (after more (after changes cells)) (after (changes ++ more) cells) tree number
    (λ c of. changes_append changes more cells c) stand

-- ---- the totals

no_totals : (number : ℕ) (c : Cell) → is_cell_of number c ≡ true → is_cell cell.Meta c ≡ false
unfolding is_cell
no_totals number cell.Meta of = absurd cc
no_totals number (cell.Object o) of = refl
no_totals number (cell.Block o b) of = refl
no_totals number (cell.Slot o s) of = refl
no_totals number (cell.Client n) of = refl
no_totals number (cell.Saved p) of = refl

totals_put : (totals : Option Value) (tree : Tree) (stamp : ℕ)
    → changed cell.Meta totals (meta_put tree stamp)
    ≡ Some (value.Meta (length tree) (used_blocks tree) stamp)
unfolding is_cell
totals_put totals tree stamp = refl

-- cells that stand at each number stand for the tree once its totals are put
pub with_totals : (changes : List Change) (cells : Cells) (tree : Tree) (stamp : ℕ)
    → AllStand (after changes cells) tree
    → StandForTree (after (changes ++ meta_put tree stamp ∷ []) cells) tree stamp
with_totals changes cells tree stamp each =
    all_stand (after (changes ++ meta_put tree stamp ∷ []) cells) tree stamp
    (λ number. in_a_row changes (meta_put tree stamp ∷ []) cells tree number
    (stands_by (after changes cells)
    (after (meta_put tree stamp ∷ []) (after changes cells)) tree number
    (λ c of. ap (λ (t : Bool). if◌then◌else◌ {A = Option Value} t
    (Some (value.Meta (length tree) (used_blocks tree) stamp)) (after changes cells c))
    (no_totals number c of))
    (each number)))
    (changes_append changes (meta_put tree stamp ∷ []) cells cell.Meta
    ∙ totals_put (after changes cells cell.Meta) tree stamp)
