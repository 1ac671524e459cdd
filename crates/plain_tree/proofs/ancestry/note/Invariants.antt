use Rattle.std.proofs.Common.{◌≡◌, ℕ, ◌<◌, ◌==◌, cond, length, get_or, take}
use Rattle.file_tree.specs.Tree.{names_in}
use Rattle.plain_tree.proofs.ancestry.note.Given as goal

abbrev pub invariant-loop-slot : goal.invariant-loop-slot
invariant-loop-slot l = record {
  size : length l.holders.items ≡ length l.fn.holders.items;
  noted : (n : ℕ) → n < length l.fn.holders.items
      → get_or l.holders.items n 0 ≡ cond (names_in n (take l.slot-index l.slots) == 0)
      (get_or l.fn.holders.items n 0) l.dir;
}
