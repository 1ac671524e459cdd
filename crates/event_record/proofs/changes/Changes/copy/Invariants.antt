use Rattle.std.proofs.Common.{◌≡◌, take}
use Rattle.event_record.proofs.changes.Changes.copy.Given as goal

abbrev pub invariant-loop-change : goal.invariant-loop-change
invariant-loop-change l = l.items.items ≡ take l.change-index l.change-items
