-- Cells that stand for a sound tree.
use Rattle.std.specs.Prelude.{ℕ}
use Rattle.file_tree.specs.Tree.{Tree}
use Rattle.file_tree.specs.Sound.{IsSound}
use Rattle.harp_cells.specs.Effect.{Cells}
use Rattle.harp_cells.specs.CellsOfTree.{StandForTree}

-- cells that stand for a sound tree, whose last update has this stamp
pub record TreeCells : Type 0 where
  pub cells : Cells
  pub tree : Tree
  pub stamp : ℕ
  pub stand : StandForTree cells tree stamp
  pub sound : IsSound tree
