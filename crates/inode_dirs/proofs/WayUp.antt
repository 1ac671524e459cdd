-- The way up from a directory, level by level.
use Rattle.std.proofs.Common.{◌≡◌, ℕ, zero, suc, ◌==◌, true, false, Option, refl, sym, ◌∙◌, eq-eqb, ne_eqb}
use Rattle.file_tree.specs.Tree.{Tree, parent_of}
use Rattle.file_tree.specs.Rename.{is_above}
use Rattle.harp_cells.specs.Effect.{Cells}
use Rattle.inode_dirs.specs.Parents.{TellsParents}

-- the cells are as they were when they told the parents
pub parents_then : (told now : Option Cells) (tree : Tree) → now ≡ told → TellsParents told tree
    → TellsParents now tree
parents_then told now tree kept t = record { cells = t.cells; are = kept ∙ t.are; holds = t.holds }

-- where the directory stands on a level, it is found
pub above_here : (levels : ℕ) (tree : Tree) (top at : ℕ) → at ≡ top
    → true ≡ is_above levels tree top at
unfolding is_above
above_here zero tree top at e = sym (eq-eqb at top e)
above_here (suc levels) tree top at e = let t : (at == top) ≡ true = eq-eqb at top e in rw t refl

-- where it doesn't, the next level counts
pub above_next : (levels more : ℕ) (tree : Tree) (top at : ℕ) → (at ≡ top → ⊥) → more ≡ suc levels
    → is_above levels tree top (parent_of tree at) ≡ is_above more tree top at
unfolding is_above
above_next levels more tree top at ne e = let t : (at == top) ≡ false = ne_eqb at top ne in
    rw (e, t) refl

-- where a directory is its own parent, the way up ends
pub above_ends : (levels : ℕ) (tree : Tree) (top at : ℕ) → (at ≡ top → ⊥) → parent_of tree at ≡ at
    → false ≡ is_above levels tree top at
unfolding is_above
above_ends zero tree top at ne own = sym (ne_eqb at top ne)
above_ends (suc levels) tree top at ne own =
    let t : (at == top) ≡ false = ne_eqb at top ne in
    rw (t, own) (above_ends levels tree top at ne own)

pub above_last : (levels : ℕ) (tree : Tree) (top at : ℕ) → levels ≡ 0
    → (at == top) ≡ is_above levels tree top at
unfolding is_above
above_last levels tree top at e = rw e refl
