use Rattle.std.proofs.Common.{◌≡◌, ℕ, ◌<◌, length, get_or, drop}
use Rattle.file_tree.specs.Tree.{holder_from}
use Rattle.plain_tree.proofs.ancestry.holders_of.Given as goal

abbrev pub invariant-loop-i : goal.invariant-loop-i
invariant-loop-i l = record {
  size : length l.holders.items ≡ length l.tree;
  held : (n : ℕ) → n < length l.tree
      → holder_from l.i (drop l.i l.tree) n (get_or l.holders.items n 0) ≡ holder_from 0 l.tree n 0;
}
