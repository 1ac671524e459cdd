use Rattle.inode_dirs.proofs.TreeCells.{trees_hold_parents, trees_tell_parents, stored_parents_are_computed}
use Rattle.inode_dirs.proofs.Below.{above_is_below}
use Rattle.inode_dirs.proofs.laws.parent_laws.Goals as goal

pub returns : goal.returns
returns c = record {
  held = trees_hold_parents;
  told = trees_tell_parents;
  stored = stored_parents_are_computed;
  above = above_is_below;
}
