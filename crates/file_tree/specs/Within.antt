-- The limits of a tree, and what keeps them.
use Rattle.std.specs.Prelude.{◌≡◌, ℕ, ◌≤◌, length}
use Rattle.harp_types.specs.Limits.{object_numbers, tree_blocks}
use Rattle.file_tree.specs.Tree.{Tree, place, blocks_at, used_blocks}

-- the limits of a tree
pub record IsWithinLimits (tree : Tree) : Type 0 where
  pub few : length tree ≤ object_numbers
  pub room : used_blocks tree ≤ tree_blocks

-- each object has the blocks that it had
pub record SameBlocks (old new : Tree) : Type 0 where
  pub used : used_blocks new ≡ used_blocks old
  pub each : (number : ℕ) → blocks_at (place new number) ≡ blocks_at (place old number)
