-- What the lines of a tree's listing are.
use Rattle.std.specs.Prelude.{◌≡◌, length}
use Rattle.file_tree.specs.Tree.{Tree}
use Rattle.trace_claims.specs.Listing.{living, tree_lines}
use Rattle.tree_listing.specs.Listing.{tree_listed}
use Rattle.world_lines.specs.Lines.{lines_of_objects}

-- they are those that a trace has to show of the tree
abbrev pub LinesAreTheTrees : Type 0
LinesAreTheTrees = (tree : Tree) → lines_of_objects (tree_listed tree) ≡ tree_lines tree

-- and as many objects are listed as live
abbrev pub CountIsLiving : Type 0
CountIsLiving = (tree : Tree) → length (tree_listed tree) ≡ living tree
