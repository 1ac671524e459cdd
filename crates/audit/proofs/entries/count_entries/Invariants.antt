use Rattle.std.proofs.Common.{ℕ, List, ◌++◌, take}
use Rattle.std.specs.List.{flat_map}
use Rattle.audit.specs.Entries.{AreNamed, entry_at}
use Rattle.audit.specs.Flaws.{entry_in}
use Rattle.audit.proofs.entries.count_entries.Given as goal

abbrev pub invariant-loop-slot : goal.invariant-loop-slot
invariant-loop-slot l = (entries : List (ℕ × ℕ)) → AreNamed l.objects entries l.fn.names.items
    → AreNamed l.objects
    (entries ++ flat_map (λ s. entry_at l.object.number (entry_in s)) (take l.slot-index l.slot-items))
    l.names.items
