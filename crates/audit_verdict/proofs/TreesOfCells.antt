-- The objects that are listed of cells are those of the tree that they stand for.
use Rattle.std.proofs.Common.{◌≡◌, ℕ, List, sym, subst}
use Rattle.std.specs.Prelude.{Result, Ok, Err, IfOk}
use Rattle.audit.specs.Laws.{NamedCellsStand}
use Rattle.audit.specs.Named.{named_cells}
use Rattle.audit.specs.Pictures.{picture_of}
use Rattle.audit.specs.Sound.{StandForNamed}
use Rattle.audit.specs.declared.picture.Picture.{Picture}
use Rattle.cell_changes.specs.TreeCells.{TreeCells}
use Rattle.file_tree.specs.Sound.{IsSound}
use Rattle.file_tree.specs.Tree.{Tree}
use Rattle.harp_cells.specs.CellsOfTree.{StandForTree}
use Rattle.harp_cells.specs.Effect.{Cells}
use Rattle.tree_listing.specs.Listing.{tree_listed}
use Rattle.tree_listing.specs.declared.listing.Listed.{Listed}
use Rattle.audit_verdict.specs.Verdicts.{AreOfTree}

-- the cells that a picture names, as those of a tree
abbrev pub named_tree : NamedCellsStand → (held : Cells) (p : Picture) → p ≡ picture_of held
    → (tree : Tree) (stamp : ℕ) → StandForNamed held tree stamp → IsSound tree → TreeCells
named_tree law held p is tree stamp stand sound = record {
  cells = named_cells p.objects held;
  tree = tree;
  stamp = stamp;
  stand = subst (λ (q : Picture). StandForTree (named_cells q.objects held) tree stamp) (sym is)
      (law held tree stamp stand sound);
  sound = sound;
}

-- what is listed of each tree that cells stand for
pub each_tree : {E : Type 0} (result : Result (List Listed) E) (held : Cells)
    → ((tree : Tree) (stamp : ℕ) → StandForNamed held tree stamp → IsSound tree
    → IfOk result (λ objects. objects ≡ tree_listed tree))
    → IfOk result (AreOfTree held)
each_tree (Ok objects) held each = each
each_tree (Err fault) held each = tt
