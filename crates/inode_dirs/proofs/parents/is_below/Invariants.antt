use Rattle.std.proofs.Common.{◌≡◌, ◌≤◌, ◌-◌, true, length}
use Rattle.file_tree.specs.Tree.{Tree, place, is_directory_at}
use Rattle.file_tree.specs.Rename.{is_above}
use Rattle.file_tree.specs.Sound.{IsSound}
use Rattle.inode_dirs.specs.Parents.{TellsParents}
use Rattle.inode_dirs.proofs.parents.is_below.Given as goal

abbrev pub invariant-loop : goal.invariant-loop
invariant-loop g l = record {
  kept : g.R.CellRead.cells l.cells ≡ g.R.CellRead.cells l.fn.cells;
  left : g.R.CellRead.left l.cells ≡ g.R.CellRead.left l.fn.cells;
  count : g.R.CellRead.faults l.fn.cells ≤ g.R.CellRead.faults l.cells;
  above : (tree : Tree) → IsSound tree → is_directory_at (place tree l.dir) ≡ true
      → TellsParents (g.R.CellRead.cells l.fn.cells) tree
      → is_above (65536 - l.counter) tree l.top l.at ≡ is_above (length tree) tree l.top l.dir;
}
