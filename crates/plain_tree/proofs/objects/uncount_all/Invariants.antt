use Rattle.std.proofs.Common.{◌≡◌, ℕ, ◌-◌, length, get_or, take}
use Rattle.file_tree.specs.Tree.{names_in}
use Rattle.plain_tree.proofs.objects.uncount_all.Given as goal

abbrev pub invariant-loop-slot : goal.invariant-loop-slot
invariant-loop-slot l = record {
  size : length l.names.items ≡ length l.fn.names.items;
  names : (k : ℕ) → get_or l.names.items k 0
      ≡ get_or l.fn.names.items k 0 - names_in k (take l.slot-index l.slots);
}
