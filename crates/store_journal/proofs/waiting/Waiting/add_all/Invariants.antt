use Rattle.std.proofs.Common.{take}
use Rattle.store_journal.specs.Waiting.{Adds}
use Rattle.store_journal.proofs.waiting.Waiting.add_all.Given as goal

-- the changes so far wait
abbrev pub invariant-loop-change : goal.invariant-loop-change
invariant-loop-change l = Adds (take l.change-index l.changes) l.initial.self l.self
