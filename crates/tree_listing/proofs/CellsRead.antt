-- What is read in the cells of the whole tree and of an object.
use Rattle.std.proofs.Common.{◌≡◌, ℕ, ◌==◌, true, false, cond, length, Option, Some, None, refl, sym, ap, ◌∙◌, inl, inr}
use Rattle.std.proofs.lemmas.Bool.{cases_eq, cases_Bool, ne_eqb}
use Rattle.file_tree.specs.declared.object.Object.{Object}
use Rattle.file_tree.specs.Tree.{Tree, place, is_directory_at}
use Rattle.harp_cells.specs.declared.value.Value.{Value}
use Rattle.harp_cells.specs.declared.cell.Cell.TheVariants as cell
use Rattle.harp_cells.specs.CellsOfTree.{object_value, stands_for}
use Rattle.cell_changes.specs.TreeCells.{TreeCells}
use Rattle.tree_listing.specs.Reading.{first_root_inode, inode_found, inode_of_some, inode_placed, next_found}

next_itself : (tree : Tree) (v : Option Value)
    → next_found (stands_for tree cell.Meta v) ≡ next_found v
next_itself tree None = refl
next_itself tree (Some v) = refl

-- the cell of the whole tree has the number of the next object
pub next_read : (t : TreeCells) → next_found (t.cells cell.Meta) ≡ length t.tree
next_read t = sym (next_itself t.tree (t.cells cell.Meta)) ∙ ap next_found t.stand.meta

inode_itself : (tree : Tree) (number : ℕ) (v : Option Value)
    → inode_found number (stands_for tree (cell.Object number) v) ≡ inode_found number v
inode_itself tree number None = elim (cases_Bool (number == 1)) [
  | inl t ↦ rw t refl
  | inr t ↦ rw t (ap (λ (b : _). cond b (Some first_root_inode) None) t)
]
inode_itself tree number (Some v) = refl

inode_of_place : (tree : Tree) (number : ℕ) (x : Option Object)
    → is_directory_at (place tree 1) ≡ true → place tree number ≡ x
    → inode_found number (object_value tree number x) ≡ inode_of_some tree number x
inode_of_place tree number None root at =
    let no_directory : is_directory_at (place tree number) ≡ false = ap is_directory_at at in
    elim (cases_eq number 1) [
      | inl e ↦ let at_root : is_directory_at (place tree 1) ≡ false = rw e at no_directory in
          absurd cc
      | inr ne ↦ let t : (number == 1) ≡ false = ne_eqb number 1 ne in rw t refl
    ]
inode_of_place tree number (Some o) root at = refl

-- an object's cell has its attributes
pub inode_read : (t : TreeCells) (number : ℕ)
    → inode_found number (t.cells (cell.Object number)) ≡ inode_placed t.tree number
unfolding inode_placed
inode_read t number =
    sym (inode_itself t.tree number (t.cells (cell.Object number)))
    ∙ ap (inode_found number) (t.stand.object number)
    ∙ inode_itself t.tree number (object_value t.tree number (place t.tree number))
    ∙ inode_of_place t.tree number (place t.tree number) t.sound.root refl
